-- The same from any node.
use Rattle.std.proofs.Common.{◌≡◌, ℕ, ◌+◌, ◌≤◌, suc, List, ◌∷◌, length, Bool, true, Option, Some, None, refl, sym, ap, subst, ◌∙◌, arith, length-append}
use Rattle.xt_tree.specs.declared.trees.Tree.{Tree}
use Rattle.xt_tree.specs.Walk.{Spot}
use Rattle.xt_types.specs.declared.axes.Axis.{Axis}
use Rattle.xt_types.specs.declared.axes.Axis.TheVariants.{Child, Descendant, Attribute, DescendantOrSelf, FollowingSibling, PrecedingSibling}
use Rattle.node_axes.specs.Axes.{on_axis}
use Rattle.node_axes.specs.Course.{is_further}
use Rattle.node_axes.specs.Paths.{Stands, before, above, same, below, after, stands, is_over, has_path}
use Rattle.node_axes.specs.Moves.{Right, NoRight, Left, NoLeft, Skips, AllBehind, Backs, NoneBack, has_spot, Lands, Ends}
use Rattle.node_axes.specs.Paths.{is_earlier, is_not_later}
use Rattle.node_axes.proofs.LoopLemmas.{stands-same}
use Rattle.node_axes.proofs.PathLemmas.{above_is, same_is}
use Rattle.node_axes.proofs.LandLemmas.{child_next, child_end, sibling_next, sibling_end}
use Rattle.node_axes.proofs.DownLemmas.{left_next, left_end, below_next, below_end, with_next, with_end, below_axis, with_axis, up_is_over}
use Rattle.node_axes.proofs.TopLemmas.{not_child, not_descendant, not_following, not_preceding, not_with, not_of_attribute, no_element}
use Rattle.xt_names.proofs.BoolLemmas.{never}

pub any_child_next : (t : Tree) (n : Spot) (q new : List ℕ) → on_axis Child n (q, None) ≡ true → Right t q new → Lands Child t n (is_further Child (q, None)) (new, None)
any_child_next t (p, None) q new o r = child_next t p q new o r
any_child_next t (p, Some k) q new o r = never (sym (not_child p k (q, None)) ∙ o)

pub any_child_end : (t : Tree) (n : Spot) (q : List ℕ) → on_axis Child n (q, None) ≡ true → NoRight t q → Ends Child t n (is_further Child (q, None))
any_child_end t (p, None) q o r = child_end t p q o r
any_child_end t (p, Some k) q o r = never (sym (not_child p k (q, None)) ∙ o)

pub any_right_next : (t : Tree) (n : Spot) (q new : List ℕ) → on_axis FollowingSibling n (q, None) ≡ true → Right t q new → Lands FollowingSibling t n (is_further FollowingSibling (q, None)) (new, None)
any_right_next t (p, None) q new o r = sibling_next t p q new o r
any_right_next t (p, Some k) q new o r = never (sym (not_following p k (q, None)) ∙ o)

pub any_right_end : (t : Tree) (n : Spot) (q : List ℕ) → on_axis FollowingSibling n (q, None) ≡ true → NoRight t q → Ends FollowingSibling t n (is_further FollowingSibling (q, None))
any_right_end t (p, None) q o r = sibling_end t p q o r
any_right_end t (p, Some k) q o r = never (sym (not_following p k (q, None)) ∙ o)

pub any_left_next : (t : Tree) (n : Spot) (q new : List ℕ) → on_axis PrecedingSibling n (q, None) ≡ true → Left t q new → Lands PrecedingSibling t n (is_further PrecedingSibling (q, None)) (new, None)
any_left_next t (p, None) q new o r = left_next t p q new o r
any_left_next t (p, Some k) q new o r = never (sym (not_preceding p k (q, None)) ∙ o)

pub any_left_end : (t : Tree) (n : Spot) (q : List ℕ) → on_axis PrecedingSibling n (q, None) ≡ true → NoLeft q → Ends PrecedingSibling t n (is_further PrecedingSibling (q, None))
any_left_end t (p, None) q o r = left_end t p q o r
any_left_end t (p, Some k) q o r = never (sym (not_preceding p k (q, None)) ∙ o)

pub any_below_next : (t : Tree) (n : Spot) (q new : List ℕ) → on_axis Descendant n (q, None) ≡ true → Skips is_earlier t (length n.0) q new → Lands Descendant t n (is_further Descendant (q, None)) (new, None)
any_below_next t (p, None) q new o r = below_next t p q new o r
any_below_next t (p, Some k) q new o r = never (sym (not_descendant p k (q, None)) ∙ o)

pub any_below_end : (t : Tree) (n : Spot) (q : List ℕ) → on_axis Descendant n (q, None) ≡ true → AllBehind is_earlier t (length n.0) q → Ends Descendant t n (is_further Descendant (q, None))
any_below_end t (p, None) q o r = below_end t p q o r
any_below_end t (p, Some k) q o r = never (sym (not_descendant p k (q, None)) ∙ o)

pub any_with_next : (t : Tree) (n : Spot) (q new : List ℕ) → on_axis DescendantOrSelf n (q, None) ≡ true → Skips is_earlier t (length n.0) q new → Lands DescendantOrSelf t n (is_further DescendantOrSelf (q, None)) (new, None)
any_with_next t (p, None) q new o r = with_next t p q new o r
any_with_next t (p, Some k) q new o r = never (sym (not_with p k q) ∙ o)

pub any_with_end : (t : Tree) (n : Spot) (q : List ℕ) → on_axis DescendantOrSelf n (q, None) ≡ true → AllBehind is_earlier t (length n.0) q → Ends DescendantOrSelf t n (is_further DescendantOrSelf (q, None))
any_with_end t (p, None) q o r = with_end t p q o r
any_with_end t (p, Some k) q o r = never (sym (not_with p k q) ∙ o)

over_length : (p q : List ℕ) (s : Stands) → s ≡ stands p q → is_over s ≡ true → length p ≤ length q
over_length p q before e h = never h
over_length p q above e h =
    let x = above_is p q (sym e) in
    let l : length q ≡ length p + suc (length x.1) = ap length x.2 ∙ length-append p (x.0 ∷ x.1) in omega arith
over_length p q same e h = let x = ap length (same_is p q (sym e)) in omega arith
over_length p q below e h = never h
over_length p q after e h = never h

pub below_base : (n : Spot) (q : List ℕ) → on_axis Descendant n (q, None) ≡ true → length n.0 ≤ length q
below_base (p, None) q o = over_length p q (stands p q) refl (up_is_over (stands p q) (sym (below_axis p q) ∙ o))
below_base (p, Some k) q o = never (sym (not_descendant p k (q, None)) ∙ o)

pub with_base : (n : Spot) (q : List ℕ) → on_axis DescendantOrSelf n (q, None) ≡ true → length n.0 ≤ length q
with_base (p, None) q o = over_length p q (stands p q) refl (sym (with_axis p q) ∙ o)
with_base (p, Some k) q o = never (sym (not_with p k q) ∙ o)

pub no_plain_attribute : (t : Tree) (n : Spot) (q : List ℕ) → on_axis Attribute n (q, None) ≡ true → Ends Attribute t n (is_further Attribute (q, None))
no_plain_attribute t (p, None) q o = never (sym (no_element p q) ∙ o)
no_plain_attribute t (p, Some k) q o = never (sym (not_of_attribute p k (q, None)) ∙ o)

-- what is at the start
pub start_lands : (axis : Axis) (t : Tree) (b : Spot → Bool) (p old : List ℕ) (a c : Option ℕ) (new : Spot) → old ≡ p → a ≡ c → Lands axis t (old, c) b new → Lands axis t (p, a) b new
start_lands axis t b p old a c new e f l =
    subst (λ z. Lands axis t (p, z) b new) (sym f) (subst (λ z. Lands axis t (z, c) b new) e l)

pub start_ends : (axis : Axis) (t : Tree) (b : Spot → Bool) (p old : List ℕ) (a c : Option ℕ) → old ≡ p → a ≡ c → Ends axis t (old, c) b → Ends axis t (p, a) b
start_ends axis t b p old a c e f l =
    subst (λ z. Ends axis t (p, z) b) (sym f) (subst (λ z. Ends axis t (z, c) b) e l)

pub plain_spot : (t : Tree) (p : List ℕ) → has_path t p ≡ true → has_spot t (p, None) ≡ true
unfolding has_path has_spot
plain_spot t p h = h

pub at_lands : (axis ax : Axis) (t t' : Tree) (p old : List ℕ) (a c : Option ℕ) (b : Spot → Bool) (new : Spot) → axis ≡ ax → t' ≡ t → old ≡ p → a ≡ c → Lands ax t' (old, c) b new → Lands axis t (p, a) b new
at_lands axis ax t t' p old a c b new h g e f l =
    subst (λ z. Lands z t (p, a) b new) (sym h) (subst (λ z. Lands ax z (p, a) b new) g (start_lands ax t' b p old a c new e f l))

pub at_ends : (axis ax : Axis) (t t' : Tree) (p old : List ℕ) (a c : Option ℕ) (b : Spot → Bool) → axis ≡ ax → t' ≡ t → old ≡ p → a ≡ c → Ends ax t' (old, c) b → Ends axis t (p, a) b
at_ends axis ax t t' p old a c b h g e f l =
    subst (λ z. Ends z t (p, a) b) (sym h) (subst (λ z. Ends ax z (p, a) b) g (start_ends ax t' b p old a c e f l))

pub on_next : (axis ax : Axis) (t t' : Tree) (n s new : Spot) → axis ≡ ax → t' ≡ t → Lands ax t' n (is_further ax s) new → Lands axis t n (is_further axis s) new
on_next axis ax t t' n s new h g l =
    subst (λ z. Lands z t n (is_further z s) new) (sym h) (subst (λ z. Lands ax z n (is_further ax s) new) g l)

pub on_end : (axis ax : Axis) (t t' : Tree) (n s : Spot) → axis ≡ ax → t' ≡ t → Ends ax t' n (is_further ax s) → Ends axis t n (is_further axis s)
on_end axis ax t t' n s h g l =
    subst (λ z. Ends z t n (is_further z s)) (sym h) (subst (λ z. Ends ax z n (is_further ax s)) g l)

pub on_as : (axis ax : Axis) (n s : Spot) → axis ≡ ax → on_axis axis n s ≡ true → on_axis ax n s ≡ true
on_as axis ax n s h o = subst (λ z. on_axis z n s ≡ true) h o

-- from what lies on the axis to a step along it, and to its end
pub next_as : (axis ax : Axis) (t t' : Tree) (n s new : Spot) → axis ≡ ax → t' ≡ t → on_axis axis n s ≡ true → (on_axis ax n s ≡ true → Lands ax t' n (is_further ax s) new) → Lands axis t n (is_further axis s) new
next_as axis ax t t' n s new h g o l = on_next axis ax t t' n s new h g (l (on_as axis ax n s h o))

pub end_as : (axis ax : Axis) (t t' : Tree) (n s : Spot) → axis ≡ ax → t' ≡ t → on_axis axis n s ≡ true → (on_axis ax n s ≡ true → Ends ax t' n (is_further ax s)) → Ends axis t n (is_further axis s)
end_as axis ax t t' n s h g o l = on_end axis ax t t' n s h g (l (on_as axis ax n s h o))

pub base_skips : (t : Tree) (base : ℕ) (p q new : List ℕ) → base ≡ length p → Skips is_earlier t base q new → Skips is_earlier t (length p) q new
base_skips t base p q new e s = subst (λ z. Skips is_earlier t z q new) e s

pub base_behind : (t : Tree) (base : ℕ) (p q : List ℕ) → base ≡ length p → AllBehind is_earlier t base q → AllBehind is_earlier t (length p) q
base_behind t base p q e s = subst (λ z. AllBehind is_earlier t z q) e s

pub backs_at : (t : Tree) (s p old new : List ℕ) → s ≡ p → Backs t s old new → Backs t p old new
backs_at t s p old new e b = subst (λ z. Backs t z old new) e b

pub none_back_at : (t : Tree) (s p old : List ℕ) → s ≡ p → NoneBack t s old → NoneBack t p old
none_back_at t s p old e b = subst (λ z. NoneBack t z old) e b

pub same_not_later : (p q : List ℕ) → p ≡ q → is_not_later (stands p q) ≡ true
same_not_later p q e = ap (λ z. is_not_later (stands p z)) (sym e) ∙ ap is_not_later (stands-same p)

pub clear_at : (s p q : List ℕ) → s ≡ p → is_not_later (stands q p) ≡ true → is_not_later (stands q s) ≡ true
clear_at s p q e h = ap (λ z. is_not_later (stands q z)) e ∙ h

pub base_at : (s p q : List ℕ) → s ≡ p → length p ≤ length q → length s ≤ length q
base_at s p q e h = let l = ap length e in omega arith
