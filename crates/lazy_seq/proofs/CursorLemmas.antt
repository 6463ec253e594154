-- What a cursor still does.
use Rattle.std.proofs.Common.{◌≡◌, ℕ, suc, ◌+◌, List, [], ◌∷◌, length, map, Bool, true, false}
use Rattle.std.proofs.Common.{cond, None, Some, if◌then◌else◌, refl, ap, arith}
use Rattle.std.specs.List.{filter}
use Rattle.xt_tree.specs.Place.{Place}
use Rattle.xt_types.specs.declared.axes.Axis.{Axis}
use Rattle.xt_types.specs.declared.node_tests.Test.{Test}
use Rattle.xdm_items.specs.NodeTests.Tests.{passes_at}
use Rattle.node_walks.specs.NodeAxes.Course.{Course, to_come}
use Rattle.node_walks.specs.NodeAxes.StepWalks.Hits.{hits_ahead, steps_to_hit, steps_ahead}
use Rattle.xdm_items.specs.declared.items.Item.{Item}
use Rattle.xdm_items.specs.declared.items.Item.TheVariants.{Node}
use Rattle.node_walks.specs.Courses.{moves_along, moves_to_come}
use Rattle.node_walks.specs.Moves.{given, steps_before, all_steps}

items_along : (axis : Axis) (wanted : Test) (ns : List Place) → given (moves_along axis wanted ns)
    ≡ map Node (filter (passes_at axis wanted) ns)
unfolding moves_along
items_along axis wanted [] = refl
items_along axis wanted (n ∷ ns) = by (passes_at axis wanted n) (items_along axis wanted ns)
  where
    by : (b : Bool) → given (moves_along axis wanted ns)
        ≡ map Node (filter (passes_at axis wanted) ns)
        → given (if b then None ∷ Some (Node n) ∷ moves_along axis wanted ns
        else None ∷ moves_along axis wanted ns)
        ≡ map Node (cond b (n ∷ filter (passes_at axis wanted) ns)
        (filter (passes_at axis wanted) ns))
    by true e = ap (λ (zs : List Item). Node n ∷ zs) e
    by false e = e

pub cursor_items : (c : Course) → given (moves_to_come c) ≡ map Node (hits_ahead c)
unfolding moves_to_come hits_ahead
cursor_items c = items_along c.axis c.test (to_come c)

first_along : (axis : Axis) (wanted : Test) (ns : List Place)
    → steps_before (moves_along axis wanted ns) ≡ steps_to_hit axis wanted ns
unfolding moves_along steps_to_hit
first_along axis wanted [] = refl
first_along axis wanted (n ∷ ns) = by (passes_at axis wanted n) (first_along axis wanted ns)
  where
    by : (b : Bool) → steps_before (moves_along axis wanted ns) ≡ steps_to_hit axis wanted ns
        → steps_before (if b then None ∷ Some (Node n) ∷ moves_along axis wanted ns
        else None ∷ moves_along axis wanted ns)
        ≡ (if b then 1 else steps_to_hit axis wanted ns + 1)
    by true e = refl
    by false e = ap (λ (k : ℕ). k + 1) e

pub cursor_first : (c : Course) → steps_before (moves_to_come c) ≡ steps_ahead c
unfolding moves_to_come steps_ahead
cursor_first c = first_along c.axis c.test (to_come c)

whole_along : (axis : Axis) (wanted : Test) (ns : List Place)
    → all_steps (moves_along axis wanted ns) ≡ length ns + 1
unfolding moves_along
whole_along axis wanted [] = refl
whole_along axis wanted (n ∷ ns) = by (passes_at axis wanted n) (whole_along axis wanted ns)
  where
    by : (b : Bool) → all_steps (moves_along axis wanted ns) ≡ length ns + 1
        → all_steps (if b then None ∷ Some (Node n) ∷ moves_along axis wanted ns
        else None ∷ moves_along axis wanted ns) ≡ suc (length ns) + 1
    by true e = omega arith
    by false e = omega arith

pub cursor_whole : (c : Course) → all_steps (moves_to_come c) ≡ length (to_come c) + 1
unfolding moves_to_come
cursor_whole c = whole_along c.axis c.test (to_come c)
