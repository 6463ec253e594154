-- What a literal of a query says, as one function of its characters (XQuery 1.0, 2.3.1, 3.1.1 and
-- A.2.3).
use Rattle.std.specs.Prelude.{ℕ, zero, suc, List, [], ◌∷◌, length, ◌==◌, Option, Some, None}
use Rattle.std.specs.Prelude.{option_map, if◌then◌else◌}
use Rattle.query_pieces.specs.References.{reference_at}
use Rattle.query_pieces.specs.Literals.{is_said}
use Rattle.query_pieces.specs.Elements.{line_end}

abbrev pub behind_reference : (List ℕ → Option (List ℕ)) → Option (ℕ × List ℕ)
    → Option (List ℕ)
behind_reference go None = None
behind_reference go (Some r) = option_map (λ said. r.0 ∷ said) (go r.1)

-- what is said from here on, in so many steps: a reference is its character, and each line end is
-- one line feed
abbrev pub said_from : ℕ → List ℕ → Option (List ℕ)
said_from zero ts = None
said_from (suc k) [] = Some []
said_from (suc k) (c ∷ ts) =
    if is_said c then option_map (λ said. c ∷ said) (said_from k ts)
    else if c == 38 then behind_reference (said_from k) (reference_at ts)
    else option_map (λ said. 10 ∷ said) (said_from k (line_end 13 ts))

-- nothing where a reference is wrong
unfoldable pub said_of : List ℕ → Option (List ℕ)
said_of ts = said_from (suc (length ts)) ts
