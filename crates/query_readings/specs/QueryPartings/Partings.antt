-- All ways to part the text of a query into tokens and pieces.
use Rattle.std.specs.Prelude.{ℕ, zero, suc, List, [], ◌∷◌, ◌++◌, length, map, if◌then◌else◌}
use Rattle.expr_keys.specs.declared.tokens.Token.{Token}
use Rattle.query_pieces.specs.Points.{Point, start}
use Rattle.query_readings.specs.QueryPartings.Nexts.{Next, is_end, next_at}

abbrev pub behind_each : (Point → List (List Token)) → List Next → List (List Token)
behind_each go [] = []
behind_each go (n ∷ ns) = map (λ ts. n.0 ∷ ts) (go n.1) ++ behind_each go ns

-- from the point to the end of the text, in so many steps
abbrev pub partings_from : ℕ → Point → List (List Token)
partings_from zero p = []
partings_from (suc k) p =
    if is_end p then [] ∷ [] else behind_each (partings_from k) (next_at p)

unfoldable pub partings : List ℕ → List (List Token)
partings text = partings_from (suc (length text)) (start text)
