-- Steps of a cursor to the next node that passes.
use Rattle.std.proofs.Common.{◌≡◌, suc, ◌+◌, List, [], ◌∷◌, ◌++◌, length, Bool, true, false, cond, Option, Some, None, is_some, refl, sym, ap, ◌∙◌, arith}
use Rattle.std.specs.Prelude.{if◌then◌else◌}
use Rattle.std.specs.List.{filter}
use Rattle.std.specs.Option.{option_to_list}
use Rattle.xt_tree.specs.Place.{Place}
use Rattle.xt_types.specs.declared.axes.Axis.{Axis}
use Rattle.xt_types.specs.declared.node_tests.Test.{Test}
use Rattle.node_tests.specs.Tests.{passes_at}
use Rattle.node_axes.specs.Course.{Course, to_come, is_at_hit}
use Rattle.node_axes.specs.StepWalks.Hits.{Gives, hits_ahead, steps_to_hit, steps_ahead, stands_at}

abbrev hits : Axis → Test → List Place → List Place
hits axis wanted ns = filter (passes_at axis wanted) ns

hit_here : (axis : Axis) (wanted : Test) (n : Place) (ns : List Place) (b : Bool) → passes_at axis wanted n ≡ b → hits axis wanted (n ∷ ns) ≡ cond b (n ∷ hits axis wanted ns) (hits axis wanted ns)
hit_here axis wanted n ns b e = ap (λ (x : Bool). cond x (n ∷ hits axis wanted ns) (hits axis wanted ns)) e

steps_here : (axis : Axis) (wanted : Test) (n : Place) (ns : List Place) (b : Bool) → passes_at axis wanted n ≡ b → steps_to_hit axis wanted (n ∷ ns) ≡ (if b then 1 else steps_to_hit axis wanted ns + 1)
unfolding steps_to_hit
steps_here axis wanted n ns b e = ap (λ (x : Bool). if x then 1 else steps_to_hit axis wanted ns + 1) e

pub at_hit : (axis : Axis) (wanted : Test) (n : Place) → is_at_hit axis wanted (Some n) ≡ passes_at axis wanted n
unfolding is_at_hit
at_hit axis wanted n = refl

-- a step of a cursor onto a node
pub record Onto (c d : Course) : Type 0 where
  pub walk : to_come c ≡ option_to_list d.present ++ to_come d
  pub present : is_some d.present ≡ true
  pub axis : d.axis ≡ c.axis
  pub test : d.test ≡ c.test

hits_onto : (axis : Axis) (wanted : Test) (ms ns : List Place) (p : Option Place) → ms ≡ option_to_list p ++ ns → is_at_hit axis wanted p ≡ true → is_some p ≡ true
    → Gives p (hits axis wanted ms) (hits axis wanted ns) × (steps_to_hit axis wanted ms ≡ 1)
hits_onto axis wanted ms ns (Some n) e h s =
    let k : passes_at axis wanted n ≡ true = sym (at_hit axis wanted n) ∙ h in
    (ap (hits axis wanted) e ∙ hit_here axis wanted n ns true k, ap (steps_to_hit axis wanted) e ∙ steps_here axis wanted n ns true k)
hits_onto axis wanted ms ns None e h s = absurd cc

hits_past : (axis : Axis) (wanted : Test) (ms ns : List Place) (p : Option Place) → ms ≡ option_to_list p ++ ns → is_at_hit axis wanted p ≡ false → is_some p ≡ true
    → (hits axis wanted ms ≡ hits axis wanted ns) × (steps_to_hit axis wanted ms ≡ steps_to_hit axis wanted ns + 1) × (length ms ≡ length ns + 1)
hits_past axis wanted ms ns (Some n) e h s =
    let k : passes_at axis wanted n ≡ false = sym (at_hit axis wanted n) ∙ h in
    let l : length ms ≡ suc (length ns) = ap length e in
    (ap (hits axis wanted) e ∙ hit_here axis wanted n ns false k, ap (steps_to_hit axis wanted) e ∙ steps_here axis wanted n ns false k, omega arith)
hits_past axis wanted ms ns None e h s = absurd cc

pub course_hits : (c : Course) (axis : Axis) (wanted : Test) → axis ≡ c.axis → wanted ≡ c.test → hits_ahead c ≡ hits axis wanted (to_come c)
unfolding hits_ahead
course_hits c axis wanted e f = rw (e, f) refl

course_steps : (c : Course) (axis : Axis) (wanted : Test) → axis ≡ c.axis → wanted ≡ c.test → steps_ahead c ≡ steps_to_hit axis wanted (to_come c)
unfolding steps_ahead
course_steps c axis wanted e f = rw (e, f) refl

gives_from : (p : Option Place) (xs ys us vs : List Place) → xs ≡ us → vs ≡ ys → Gives p us vs → Gives p xs ys
gives_from None xs ys us vs e f g = e ∙ g
gives_from (Some n) xs ys us vs e f g = e ∙ g ∙ ap (λ (zs : List Place). n ∷ zs) f

-- a step onto a node that passes
pub onto_hit : (c d : Course) (xs : List Place) → xs ≡ hits_ahead c → Onto c d → is_at_hit d.axis d.test d.present ≡ true → Gives (stands_at true d) xs (hits_ahead d) × (steps_ahead c ≡ 1)
unfolding stands_at
onto_hit c d xs e o h =
    let x = hits_onto d.axis d.test (to_come c) (to_come d) d.present o.walk h o.present in (
      gives_from d.present xs (hits_ahead d) _ _ (e ∙ course_hits c d.axis d.test o.axis o.test) (sym (course_hits d d.axis d.test refl refl)) x.0,
      course_steps c d.axis d.test o.axis o.test ∙ x.1,
    )

-- a step onto a node that does not
pub onto_other : (c d : Course) → Onto c d → is_at_hit d.axis d.test d.present ≡ false
    → (hits_ahead c ≡ hits_ahead d) × (steps_ahead c ≡ steps_ahead d + 1) × (length (to_come c) ≡ length (to_come d) + 1)
onto_other c d o h =
    let x = hits_past d.axis d.test (to_come c) (to_come d) d.present o.walk h o.present in
    let y = course_steps c d.axis d.test o.axis o.test in
    let z = course_steps d d.axis d.test refl refl in
    (course_hits c d.axis d.test o.axis o.test ∙ x.0 ∙ sym (course_hits d d.axis d.test refl refl), omega arith, x.2)

-- past the end
pub no_hits : (c : Course) → to_come c ≡ [] → (hits_ahead c ≡ []) × (steps_ahead c ≡ 1)
unfolding hits_ahead steps_ahead steps_to_hit
no_hits c e = (rw e refl, rw e refl)

pub stands_nowhere : (c : Course) (xs ys : List Place) → xs ≡ [] → Gives (stands_at false c) xs ys
unfolding stands_at
stands_nowhere c xs ys e = e

pub gave_nothing : (r : Bool) (c : Course) (xs ys : List Place) → r ≡ false → Gives (stands_at r c) xs ys → xs ≡ []
unfolding stands_at
gave_nothing false c xs ys e g = g
gave_nothing true c xs ys e g = absurd cc

gave_present : (r : Bool) (c : Course) (xs ys : List Place) → r ≡ true → Gives (stands_at r c) xs ys → Gives c.present xs ys
unfolding stands_at
gave_present true c xs ys e g = g
gave_present false c xs ys e g = absurd cc

pub gave_node : (r : Bool) (c : Course) (node : Option Place) (xs ys : List Place) → r ≡ true → node ≡ c.present → Gives (stands_at r c) xs ys → Gives node xs ys
gave_node r c node xs ys e f g = gives_to node c.present f (gave_present r c xs ys e g)
  where
    gives_to : (p q : Option Place) → p ≡ q → Gives q xs ys → Gives p xs ys
    gives_to None None e g = g
    gives_to (Some n) (Some m) e g = let same : n ≡ m = cc in g ∙ ap (λ (x : Place). x ∷ ys) (sym same)
    gives_to None (Some m) e g = absurd cc
    gives_to (Some n) None e g = absurd cc
