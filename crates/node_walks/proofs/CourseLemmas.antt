-- Steps of a cursor, as moves.
use Rattle.std.proofs.Common.{◌≡◌, suc, ◌+◌, List, [], ◌∷◌, ◌++◌, length, Bool, true, false, Option, Some, None, is_some}
use Rattle.std.proofs.Common.{if◌then◌else◌, refl, sym, ap, ◌∙◌, arith}
use Rattle.std.specs.Option.{option_map, option_to_list}
use Rattle.xt_tree.specs.Place.{Place}
use Rattle.xt_types.specs.declared.axes.Axis.{Axis}
use Rattle.xt_types.specs.declared.node_tests.Test.{Test}
use Rattle.xdm_items.specs.NodeTests.Tests.{passes_at}
use Rattle.node_axes.specs.Course.{Course, to_come, is_at_hit}
use Rattle.xdm_items.specs.declared.items.Item.TheVariants.{Node}
use Rattle.node_walks.specs.Courses.{moves_along, moves_to_come, present_moves, walk_moves, is_ahead}
use Rattle.node_walks.specs.declared.axis_walks.Stand.{Stand}
use Rattle.node_walks.specs.declared.axis_walks.Stand.TheVariants.{Before, Ahead, Ended}
use Rattle.node_walks.specs.Moves.{Moves, standing, settled, passed, steps_before}
use Rattle.node_axes.proofs.StepWalks.HitLemmas.{at_hit, Onto}

along : (axis : Axis) (wanted : Test) (n : Place) (rest : List Place) (b : Bool) → passes_at axis wanted n ≡ b → moves_along axis wanted (n ∷ rest)
    ≡ (if b then None ∷ Some (Node n) ∷ moves_along axis wanted rest else None ∷ moves_along axis wanted rest)
unfolding moves_along
along axis wanted n rest b e = rw e refl

course_moves : (c : Course) (axis : Axis) (wanted : Test) → axis ≡ c.axis → wanted ≡ c.test → moves_to_come c ≡ moves_along axis wanted (to_come c)
unfolding moves_to_come
course_moves c axis wanted e f = rw (e, f) refl

hit_by : (axis : Axis) (wanted : Test) (ms ns : List Place) (p : Option Place) → ms ≡ option_to_list p ++ ns → is_at_hit axis wanted p ≡ true → is_some p ≡ true
    → moves_along axis wanted ms ≡ None ∷ (present_moves p ++ moves_along axis wanted ns)
unfolding present_moves
hit_by axis wanted ms ns (Some n) e h s = ap (moves_along axis wanted) e ∙ along axis wanted n ns true (sym (at_hit axis wanted n) ∙ h)
hit_by axis wanted ms ns None e h s = absurd cc

other_by : (axis : Axis) (wanted : Test) (ms ns : List Place) (p : Option Place) → ms ≡ option_to_list p ++ ns → is_at_hit axis wanted p ≡ false → is_some p ≡ true
    → (moves_along axis wanted ms ≡ None ∷ moves_along axis wanted ns) × (length ms ≡ length ns + 1)
other_by axis wanted ms ns (Some n) e h s =
    let l : length ms ≡ suc (length ns) = ap length e in
    (ap (moves_along axis wanted) e ∙ along axis wanted n ns false (sym (at_hit axis wanted n) ∙ h), omega arith)
other_by axis wanted ms ns None e h s = absurd cc

-- onto a node that passes
pub onto_hit : (c d : Course) → Onto c d → is_at_hit d.axis d.test d.present ≡ true → moves_to_come c ≡ None ∷ (present_moves d.present ++ moves_to_come d)
onto_hit c d o h =
    course_moves c d.axis d.test o.axis o.test ∙ hit_by d.axis d.test (to_come c) (to_come d) d.present o.walk h o.present
    ∙ ap (λ (ms : Moves). None ∷ (present_moves d.present ++ ms)) (sym (course_moves d d.axis d.test refl refl))

-- onto a node that does not
pub onto_other : (c d : Course) → Onto c d → is_at_hit d.axis d.test d.present ≡ false
    → (moves_to_come c ≡ None ∷ moves_to_come d) × (length (to_come c) ≡ length (to_come d) + 1)
onto_other c d o h =
    let x = other_by d.axis d.test (to_come c) (to_come d) d.present o.walk h o.present in
    (course_moves c d.axis d.test o.axis o.test ∙ x.0 ∙ ap (λ (ms : Moves). None ∷ ms) (sym (course_moves d d.axis d.test refl refl)), x.1)

-- past the end
pub no_more : (c : Course) → to_come c ≡ [] → moves_to_come c ≡ None ∷ []
unfolding moves_to_come moves_along
no_more c e = rw e refl

pub stands_on : (p : Option Place) (ms : Moves) → is_some p ≡ true → is_some (standing (present_moves p ++ ms)) ≡ true
unfolding present_moves
stands_on (Some n) ms e = refl
stands_on None ms e = absurd cc

pub settled_on : (p : Option Place) (ms : Moves) → is_some p ≡ true → present_moves p ++ ms ≡ settled (present_moves p ++ ms)
unfolding present_moves
settled_on (Some n) ms e = refl
settled_on None ms e = absurd cc

pub no_steps : (p : Option Place) (ms : Moves) → is_some p ≡ true → steps_before (present_moves p ++ ms) ≡ 0
unfolding present_moves
no_steps (Some n) ms e = refl
no_steps None ms e = absurd cc

-- before its next step a walk stands on no item
no_give : (axis : Axis) (wanted : Test) (ns : List Place) → (standing (moves_along axis wanted ns) ≡ None) × (passed (moves_along axis wanted ns) ≡ moves_along axis wanted ns)
unfolding moves_along
no_give axis wanted [] = (refl, refl)
no_give axis wanted (n ∷ rest) = by (passes_at axis wanted n) (Some (Node n) ∷ moves_along axis wanted rest) (moves_along axis wanted rest)
  where
    by : (b : Bool) (us vs : Moves) → (standing (if b then None ∷ us else None ∷ vs) ≡ None) × (passed (if b then None ∷ us else None ∷ vs) ≡ (if b then None ∷ us else None ∷ vs))
    by true us vs = (refl, refl)
    by false us vs = (refl, refl)

nowhere : (c : Course) → (standing (moves_to_come c) ≡ None) × (passed (moves_to_come c) ≡ moves_to_come c)
unfolding moves_to_come
nowhere c = no_give c.axis c.test (to_come c)

-- what a walk stands on, and what is left after it
pub on_none : (s : Stand) (c : Course) (xs : Moves) → is_ahead s ≡ false → walk_moves s c ≡ xs → (None ≡ standing xs) × (xs ≡ passed xs)
unfolding walk_moves
on_none Before c xs a e = (sym (ap standing (sym e) ∙ (nowhere c).0), sym (ap passed (sym e) ∙ (nowhere c).1 ∙ e))
on_none Ahead c xs a e = absurd cc
on_none Ended c xs a e = (ap standing e, sym e ∙ ap passed e)

on_some : (p : Option Place) (ms : Moves) → is_some p ≡ true → (option_map Node p ≡ standing (present_moves p ++ ms)) × (ms ≡ passed (present_moves p ++ ms))
unfolding present_moves
on_some (Some n) ms h = (refl, refl)
on_some None ms h = absurd cc

pub on_node : (s : Stand) (c : Course) (xs : Moves) → s ≡ Ahead → is_some c.present ≡ true → walk_moves s c ≡ xs
    → (option_map Node c.present ≡ standing xs) × (walk_moves Before c ≡ passed xs)
unfolding walk_moves
on_node Ahead c xs a h e = let x = on_some c.present (moves_to_come c) h in (x.0 ∙ ap standing e, x.1 ∙ ap passed e)
on_node Before c xs a h e = absurd cc
on_node Ended c xs a h e = absurd cc

-- what stands on an item is settled
pub stays : (s : Stand) (c : Course) → s ≡ Ahead → is_some c.present ≡ true
    → (walk_moves Ahead c ≡ settled (walk_moves s c)) × (true ≡ is_some (standing (walk_moves Ahead c))) × (steps_before (walk_moves s c) ≡ 0)
unfolding walk_moves
stays Ahead c a h = (settled_on c.present (moves_to_come c) h, sym (stands_on c.present (moves_to_come c) h), no_steps c.present (moves_to_come c) h)
stays Before c a h = absurd cc
stays Ended c a h = absurd cc
