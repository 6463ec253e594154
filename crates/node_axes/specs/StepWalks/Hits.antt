-- The nodes of an axis that pass the test.
use Rattle.std.specs.Prelude.{◌≡◌, ℕ, ◌+◌, List, [], ◌∷◌, filter, Bool, true, false, if◌then◌else◌, Option, Some, None}
use Rattle.xt_tree.specs.Place.{Place}
use Rattle.xt_types.specs.declared.axes.Axis.{Axis}
use Rattle.xt_types.specs.declared.node_tests.Test.{Test}
use Rattle.node_tests.specs.Tests.{passes_at}
use Rattle.node_axes.specs.Course.{Course, to_come}

-- the nodes that a cursor has not reached yet and that pass its test
unfoldable pub hits_ahead : Course → List Place
hits_ahead c = filter (passes_at c.axis c.test) (to_come c)

-- how many steps lead to the first node that passes; with none, one step past the end
unfoldable pub steps_to_hit : Axis → Test → List Place → ℕ
steps_to_hit axis wanted [] = 1
steps_to_hit axis wanted (n ∷ rest) = if passes_at axis wanted n then 1 else steps_to_hit axis wanted rest + 1

unfoldable pub steps_ahead : Course → ℕ
steps_ahead c = steps_to_hit c.axis c.test (to_come c)

-- the first node of the old list is given, and the new one is the rest; nothing is given where the old one is empty
abbrev pub Gives : Option Place → List Place → List Place → Type 0
Gives None old new = old ≡ []
Gives (Some n) old new = old ≡ n ∷ new

-- the node at which a cursor that found one stands
unfoldable pub stands_at : Bool → Course → Option Place
stands_at false c = None
stands_at true c = c.present
