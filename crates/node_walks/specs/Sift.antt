-- Predicates that filter in turn what a walk gives (XPath 2.0, 3.2.2).
use Rattle.std.specs.Prelude.{ℕ, suc, List, [], ◌∷◌, length, Bool, true, false, nat_eq, if◌then◌else◌, Some, None}
use Rattle.node_axes.specs.StepWalks.Nodes.{Focus}
use Rattle.node_axes.specs.StepWalks.Sifted.{kept_in_turn, raised}
use Rattle.xdm_items.specs.declared.items.Item.{Item}
use Rattle.xdm_items.specs.declared.items.Item.TheVariants.{Node, Atom}
use Rattle.node_walks.specs.Moves.{Moves}

-- whether all predicates keep the item, where so many have come to each of them before
unfoldable pub is_kept : List (Focus → Bool) → List ℕ → Item → Bool
is_kept tests seen (Node n) = nat_eq (kept_in_turn tests seen n) (length tests)
is_kept tests seen (Atom a) = false

-- how many have come to each of them after it
unfoldable pub after : List (Focus → Bool) → List ℕ → Item → List ℕ
after tests seen (Node n) = raised (suc (kept_in_turn tests seen n)) seen
after tests seen (Atom a) = seen

-- every step is still taken, and an item is given only where the predicates keep it
abbrev pub sifted_moves : List (Focus → Bool) → List ℕ → Moves → Moves
sifted_moves tests seen [] = []
sifted_moves tests seen (None ∷ moves) = None ∷ sifted_moves tests seen moves
sifted_moves tests seen (Some x ∷ moves) =
    if is_kept tests seen x then Some x ∷ sifted_moves tests (after tests seen x) moves
    else sifted_moves tests (after tests seen x) moves

-- where the first item is known to be kept
abbrev pub kept_moves : List (Focus → Bool) → List ℕ → Moves → Moves
kept_moves tests seen [] = []
kept_moves tests seen (m ∷ moves) = m ∷ sifted_moves tests seen moves

unfoldable pub quiet_moves : Bool → List (Focus → Bool) → List ℕ → Moves → Moves
quiet_moves false tests seen moves = sifted_moves tests seen moves
quiet_moves true tests seen moves = kept_moves tests seen moves
