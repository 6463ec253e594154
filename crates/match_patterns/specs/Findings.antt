-- What a search among the nodes above a node tells.
use Rattle.std.specs.Prelude.{◌≡◌, ℕ, ◌+◌, Bool, true, false, length, Option, Some, None}
use Rattle.std.specs.List.{list_any}
use Rattle.xt_tree.specs.Place.{Place}
use Rattle.match_patterns.specs.declared.findings.Finding.{Finding}
use Rattle.match_patterns.specs.declared.findings.Finding.TheVariants.{Here, NotHere, NotAbove}
use Rattle.match_patterns.specs.Patterns.{above}

-- the test holds at the node, or not there, or neither there nor at any node above
unfoldable pub Tells : Finding → (Place → Bool) → Place → Type 0
Tells Here test n = test n ≡ true
Tells NotHere test n = test n ≡ false
Tells NotAbove test n = (test n ≡ false) × (list_any test (above true n) ≡ false)

abbrev pub finding_of : Bool → Finding
finding_of true = Here
finding_of false = NotHere

abbrev pub is_here : Finding → Bool
is_here Here = true
is_here NotHere = false
is_here NotAbove = false

abbrev pub count_of : ℕ → Option ℕ → ℕ
count_of steps None = steps
count_of steps (Some i) = steps + 1

-- how many nodes are above the node: as many as steps lead to it from the root, and to an attribute one more
abbrev pub count_above : Place → ℕ
count_above n = count_of (length n.path) n.attribute
