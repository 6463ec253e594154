-- Where a step along an axis lands: the node itself, its attributes, and the nodes above.
use Rattle.std.proofs.Common.{◌≡◌, ℕ, suc, ◌+◌, List, [], ◌∷◌, ◌++◌, length, Bool, true, false, ◌&&◌, Option, Some, None, inl, inr, refl, sym, ap, subst, ◌∙◌, arith, length-append, append_assoc, append-nil}
use Rattle.std.proofs.lemmas.Bool.{both_ways, and_parts, or_cases, or_left, false_from_ne_true, eq-eqb, le-ltb}
use Rattle.xt_tree.specs.declared.trees.Tree.{Tree}
use Rattle.xt_tree.specs.Walk.{Spot}
use Rattle.xt_types.specs.declared.axes.Axis.TheVariants.{Itself, DescendantOrSelf, Parent, Ancestor}
use Rattle.node_axes.specs.Axes.{same_path, same_attribute, is_before, is_reverse, is_attribute, is_descendant, is_itself, is_parent, is_ancestor, on_axis}
use Rattle.node_axes.specs.Course.{is_further}
use Rattle.node_axes.specs.Paths.{Stands, before, above, same, below, after, stands, is_before_all, is_earlier, is_over, has_path}
use Rattle.node_axes.specs.Moves.{Up, has_spot, Lands, Ends, every}
use Rattle.node_axes.proofs.PathLemmas.{flip, stands-flip, above_is, same_is}
use Rattle.node_axes.proofs.MoveLemmas.{push_inj}
use Rattle.node_axes.proofs.LoopLemmas.{stands-same, stands-longer, apart}
use Rattle.node_axes.proofs.AxisLemmas.{is_up, is_one, earlier_spot, option_less, before_is, same_path_is, descendant_is, ancestor_is, attribute_ancestor_is, parent_parts, parent_on, owner_parts, owner_on}
use Rattle.node_axes.proofs.LandLemmas.{plain_before, before_trans, lands_from, ends_from}
use Rattle.node_axes.proofs.DownLemmas.{up_is_earlier, up_is_over}
use Rattle.node_axes.proofs.StepWalks.OrderLemmas.{attribute_is}
use Rattle.xt_names.proofs.BoolLemmas.{never}

-- ---- the node itself
one_is : (s : Stands) → is_one s ≡ true → s ≡ same
one_is before h = never h
one_is above h = never h
one_is same h = refl
one_is below h = never h
one_is after h = never h

pub path_is : (p u : List ℕ) → same_path p u ≡ true → p ≡ u
path_is p u h = same_is p u (one_is (stands p u) (sym (same_path_is p u) ∙ h))

pair_is : (s : Spot) (p : List ℕ) (a : Option ℕ) → p ≡ s.0 → a ≡ s.1 → s ≡ (p, a)
pair_is s p a i j = rw (i, j)

pub itself_is : (n m : Spot) → is_itself n m ≡ true → n ≡ m
unfolding is_itself
itself_is (p, a) (u, b) h =
    let x = and_parts (same_path p u) (same_attribute a b) h in pair_is (p, a) u b (sym (path_is p u x.0)) (sym (attribute_is a b x.1))

same_attribute-refl : (a : Option ℕ) → same_attribute a a ≡ true
unfolding same_attribute
same_attribute-refl None = refl
same_attribute-refl (Some x) = eq-eqb x x refl

pub itself_on : (n : Spot) → is_itself n n ≡ true
unfolding is_itself
itself_on (p, a) =
    let e : same_path p p ≡ true = same_path_is p p ∙ ap is_one (stands-same p) in
    ap (λ b. b && same_attribute a a) e ∙ same_attribute-refl a

not_less : (a : Option ℕ) → option_less a a ≡ false
not_less None = refl
not_less (Some x) = le-ltb x x (omega arith)

pub not_before_itself : (n : Spot) → is_before n n ≡ false
not_before_itself (p, a) = before_is p p a a ∙ ap (earlier_spot a a) (stands-same p) ∙ not_less a

pub not_before_same : (n m : Spot) → is_itself n m ≡ true → is_before m n ≡ false
not_before_same n m h = let e = itself_is n m h in subst (λ z. is_before z n ≡ false) e (not_before_itself n)

pub not_after_same : (n m : Spot) → is_itself n m ≡ true → is_before n m ≡ false
not_after_same n m h = let e = itself_is n m h in subst (λ z. is_before n z ≡ false) e (not_before_itself n)

pub itself_first : (t : Tree) (n : Spot) → has_spot t n ≡ true → Lands Itself t n every n
unfolding on_axis is_further is_reverse
itself_first t n h = record { exists = h; on = itself_on n; passes = refl; first = λ m g o b. not_before_same n m o }

pub itself_end : (t : Tree) (n s : Spot) → on_axis Itself n s ≡ true → Ends Itself t n (is_further Itself s)
unfolding on_axis is_further is_reverse
itself_end t n s o m h o' =
    let e = itself_is n s o in
    subst (λ z. is_before z m ≡ false) e (not_after_same n m o')

-- ---- what is over a node is not after it
over_flip : (s : Stands) → is_over s ≡ true → is_earlier (flip s) ≡ false
over_flip before h = never h
over_flip above h = refl
over_flip same h = refl
over_flip below h = never h
over_flip after h = never h

pub under_not_earlier : (p u : List ℕ) → is_over (stands u p) ≡ true → is_earlier (stands p u) ≡ false
under_not_earlier p u h = ap is_earlier (stands-flip u p) ∙ over_flip (stands u p) h

pub over_attribute : (k : ℕ) (s : Stands) → is_over s ≡ true → earlier_spot (Some k) None (flip s) ≡ false
over_attribute k before h = never h
over_attribute k above h = refl
over_attribute k same h = refl
over_attribute k below h = never h
over_attribute k after h = never h

over_below : (s : Stands) → is_up s ≡ true → is_earlier (flip s) ≡ false
over_below before h = never h
over_below above h = refl
over_below same h = never h
over_below below h = never h
over_below after h = never h

-- ---- descendants, first the node itself
below_not_before : (p u : List ℕ) (a : Option ℕ) (b : Option ℕ) → is_descendant (p, a) (u, b) ≡ true → is_before (u, b) (p, a) ≡ false
unfolding is_descendant is_attribute
below_not_before p u None None h =
    let e : is_up (stands p u) ≡ true = sym (descendant_is p u) ∙ h in
    plain_before u p ∙ ap is_earlier (stands-flip p u) ∙ over_below (stands p u) e
below_not_before p u None (Some k) h = never h
below_not_before p u (Some k) None h = never h
below_not_before p u (Some k) (Some l) h = never h

with_not_before : (n m : Spot) → on_axis DescendantOrSelf n m ≡ true → is_before m n ≡ false
unfolding on_axis
with_not_before (p, a) (u, b) h =
    elim (or_cases (is_itself (p, a) (u, b)) (is_descendant (p, a) (u, b)) h)
    [ inl e ↦ not_before_same (p, a) (u, b) e | inr e ↦ below_not_before p u a b e ]

pub with_first : (t : Tree) (n : Spot) → has_spot t n ≡ true → Lands DescendantOrSelf t n every n
unfolding is_further is_reverse on_axis
with_first t n h = record { exists = h; on = or_left (is_itself n n) (is_descendant n n) (itself_on n); passes = refl; first = λ m g o b. with_not_before n m o }

no_attribute_down : (n m : Spot) → is_attribute m ≡ true → is_descendant n m ≡ true → ⊥
unfolding is_descendant is_attribute
no_attribute_down (p, None) (u, None) a h = never a
no_attribute_down (p, None) (u, Some k) a h = never h
no_attribute_down (p, Some l) (u, b) a h = never h

no_attribute_up : (n m : Spot) → is_attribute n ≡ true → is_descendant n m ≡ true → ⊥
unfolding is_descendant is_attribute
no_attribute_up (p, None) m a h = never a
no_attribute_up (p, Some l) m a h = never h

-- on this axis an attribute is the node itself, and has nothing after it
pub with_attribute_end : (t : Tree) (n : Spot) (q : List ℕ) (k : ℕ) → on_axis DescendantOrSelf n (q, Some k) ≡ true → Ends DescendantOrSelf t n (is_further DescendantOrSelf (q, Some k))
unfolding on_axis is_further is_reverse is_attribute
with_attribute_end t n q k o m h o' =
    let i : is_itself n (q, Some k) ≡ true = elim (or_cases (is_itself n (q, Some k)) (is_descendant n (q, Some k)) o)
    [ inl e ↦ e | inr e ↦ absurd (no_attribute_down n (q, Some k) refl e) ] in
    let e = itself_is n (q, Some k) i in
    let a : is_attribute n ≡ true = ap is_attribute e in
    let j : is_itself n m ≡ true = elim (or_cases (is_itself n m) (is_descendant n m) o')
    [ inl f ↦ f | inr f ↦ absurd (no_attribute_up n m a f) ] in
    subst (λ z. is_before z m ≡ false) e (not_after_same n m j)

-- ---- the node above
mid_off : (x y : Bool) → (false && x && y) ≡ false
mid_off x y = refl

no_attribute_parent : (n : Spot) (u : List ℕ) (k : ℕ) → on_axis Parent n (u, Some k) ≡ false
unfolding on_axis is_parent is_attribute
no_attribute_parent n u k = refl

parent_further : (u v : List ℕ) → is_further Parent (u, None) (v, None) ≡ is_earlier (stands v u)
unfolding is_further is_reverse
parent_further u v = plain_before v u

parent_axis : (n m : Spot) → on_axis Parent n m ≡ is_parent n m
unfolding on_axis
parent_axis n m = refl

same_not_earlier : (u v : List ℕ) → u ≡ v → is_earlier (stands v u) ≡ false
same_not_earlier u v e = ap (λ z. is_earlier (stands v z)) e ∙ ap is_earlier (stands-same v)

pub parent_first : (t : Tree) (p new : List ℕ) → Up t p new → Lands Parent t (p, None) every (new, None)
parent_first t p new s =
    lands_from Parent t (p, None) every new s.exists (parent_axis (p, None) (new, None) ∙ ap (λ z. is_parent (z, None) (new, None)) s.to.1 ∙ parent_on new s.to.0) refl
    (λ u k. no_attribute_parent (p, None) u k)
    (λ u h o g.
    let x = parent_parts p u (sym (parent_axis (p, None) (u, None)) ∙ o) in
    let e = push_inj u new x.0 s.to.0 (sym x.1 ∙ s.to.1) in
    parent_further u new ∙ same_not_earlier u new e.0)

not_pushed : {A : Type 0} (q : List ℕ) (i : ℕ) → [] ≡ q ++ i ∷ [] → A
not_pushed [] i e = cc
not_pushed (x ∷ q) i e = cc

pub parent_none : (t : Tree) (p : List ℕ) → p ≡ [] → Ends Parent t (p, None) every
parent_none t p e =
    ends_from Parent t (p, None) every (λ u k. no_attribute_parent (p, None) u k)
    (λ u h o.
    let x = parent_parts p u (sym (parent_axis (p, None) (u, None)) ∙ o) in not_pushed u x.0 (sym e ∙ x.1))

pub owner_first : (t : Tree) (p : List ℕ) (k : ℕ) → has_path t p ≡ true → Lands Parent t (p, Some k) every (p, None)
owner_first t p k has =
    lands_from Parent t (p, Some k) every p has (parent_axis (p, Some k) (p, None) ∙ owner_on p k) refl
    (λ u l. no_attribute_parent (p, Some k) u l)
    (λ u h o g. parent_further u p ∙ same_not_earlier u p (owner_parts p u k (sym (parent_axis (p, Some k) (u, None)) ∙ o)))

one_parent : (n : Spot) (u v : List ℕ) → is_parent n (u, None) ≡ true → is_parent n (v, None) ≡ true → u ≡ v
one_parent (p, None) u v h g =
    let x = parent_parts p u h in let y = parent_parts p v g in let e = push_inj u v x.0 y.0 (sym x.1 ∙ y.1) in e.0
one_parent (p, Some k) u v h g = owner_parts p u k h ∙ sym (owner_parts p v k g)

pub parent_end : (t : Tree) (n : Spot) (q : List ℕ) → on_axis Parent n (q, None) ≡ true → Ends Parent t n (is_further Parent (q, None))
parent_end t n q o' =
    ends_from Parent t n (is_further Parent (q, None)) (λ u l. no_attribute_parent n u l)
    (λ u h o.
    let e = one_parent n q u (sym (parent_axis n (q, None)) ∙ o') (sym (parent_axis n (u, None)) ∙ o) in
    parent_further q u ∙ same_not_earlier q u e)

-- ---- the nodes above
no_attribute_over : (n : Spot) (u : List ℕ) (k : ℕ) → is_ancestor n (u, Some k) ≡ false
unfolding is_ancestor is_attribute
no_attribute_over n u k = refl

-- an ancestor is over the node, or over the element of an attribute
pub over_parts : (p u : List ℕ) (a : Option ℕ) → is_ancestor (p, a) (u, None) ≡ true → is_over (stands u p) ≡ true
over_parts p u None h = up_is_over (stands u p) (sym (ancestor_is p u) ∙ h)
over_parts p u (Some k) h = sym (attribute_ancestor_is p u k) ∙ h

pub over_on : (p u : List ℕ) (a : Option ℕ) → stands u p ≡ above → is_ancestor (p, a) (u, None) ≡ true
over_on p u None h = ancestor_is p u ∙ ap is_up h
over_on p u (Some k) h = attribute_ancestor_is p u k ∙ ap is_over h

nothing_more : (q : List ℕ) → q ≡ q ++ []
nothing_more q = sym (append-nil q)

over_split : (p q : List ℕ) (s : Stands) → s ≡ stands q p → is_over s ≡ true → (r : List ℕ) × (p ≡ q ++ r)
over_split p q before e h = never h
over_split p q above e h = let x = above_is q p (sym e) in (x.0 ∷ x.1, x.2)
over_split p q same e h = ([], sym (same_is q p (sym e)) ∙ nothing_more q)
over_split p q below e h = never h
over_split p q after e h = never h

-- the parent of what is over a node is above it
pub above_over : (p q new : List ℕ) (i : ℕ) → q ≡ new ++ i ∷ [] → is_over (stands q p) ≡ true → stands new p ≡ above
above_over p q new i e o =
    let x = over_split p q (stands q p) refl o in
    let f : p ≡ new ++ i ∷ x.0 = x.1 ∙ ap (λ z. z ++ x.0) e ∙ append_assoc new (i ∷ []) x.0 in
    ap (stands new) f ∙ stands-longer new i x.0

-- of two nodes over a third, the earlier is above the other
earlier_cases : (s : Stands) → is_earlier s ≡ true → (s ≡ before → ⊥) → s ≡ above
earlier_cases before h f = absurd (f refl)
earlier_cases above h f = refl
earlier_cases same h f = never h
earlier_cases below h f = never h
earlier_cases after h f = never h

over_or_same : (p q u : List ℕ) (s : Stands) → s ≡ stands q p → is_over s ≡ true → is_over (stands u p) ≡ true → stands u q ≡ before → ⊥
over_or_same p q u before e h o b = never h
over_or_same p q u above e h o b =
    let x : is_before_all (stands u p) ≡ true = before_trans u q p (ap is_before_all b) (ap is_earlier (sym e)) in apart (stands u p) o x
over_or_same p q u same e h o b =
    let f = same_is q p (sym e) in
    let x : is_before_all (stands u p) ≡ true = subst (λ z. is_before_all (stands u z) ≡ true) f (ap is_before_all b) in apart (stands u p) o x
over_or_same p q u below e h o b = never h
over_or_same p q u after e h o b = never h

pub both_over : (p q u : List ℕ) → is_over (stands u p) ≡ true → is_over (stands q p) ≡ true → is_earlier (stands u q) ≡ true → stands u q ≡ above
both_over p q u o o' h = earlier_cases (stands u q) h (λ b. over_or_same p q u (stands q p) refl o' o b)

-- nothing that is above a node is after its parent
no_longer : (u new q : List ℕ) (i : ℕ) → q ≡ new ++ i ∷ [] → stands u q ≡ above → stands new u ≡ above → ⊥
no_longer u new q i e a b =
    let x = above_is u q a in
    let y = above_is new u b in
    let k : length u ≡ length new + suc (length y.1) = ap length y.2 ∙ length-append new (y.0 ∷ y.1) in
    let l : length q ≡ length u + suc (length x.1) = ap length x.2 ∙ length-append u (x.0 ∷ x.1) in
    let m : length q ≡ length new + 1 = ap length e ∙ length-append new (i ∷ []) in omega arith

not_crossing : (u new q : List ℕ) (i : ℕ) → q ≡ new ++ i ∷ [] → stands u q ≡ above → stands new u ≡ before → ⊥
not_crossing u new q i e a b =
    let x : is_before_all (stands new q) ≡ true = before_trans new u q (ap is_before_all b) (ap is_earlier a) in
    let y : is_before_all (stands new q) ≡ false = ap (λ z. is_before_all (stands new z)) e ∙ ap is_before_all (stands-longer new i []) in
    both_ways (is_before_all (stands new q)) y x

pub nothing_between : (u new q : List ℕ) (i : ℕ) → q ≡ new ++ i ∷ [] → stands u q ≡ above → is_earlier (stands new u) ≡ false
nothing_between u new q i e a = false_from_ne_true (is_earlier (stands new u)) (λ h.
    no_longer u new q i e a (earlier_cases (stands new u) h (λ b. not_crossing u new q i e a b)))

ancestor_further : (u v : List ℕ) → is_further Ancestor (u, None) (v, None) ≡ is_earlier (stands v u)
unfolding is_further is_reverse
ancestor_further u v = plain_before v u

ancestor_axis : (n m : Spot) → on_axis Ancestor n m ≡ is_ancestor n m
unfolding on_axis
ancestor_axis n m = refl

up_above : (s : Stands) → is_up s ≡ true → s ≡ above
up_above before h = never h
up_above above h = refl
up_above same h = never h
up_above below h = never h
up_above after h = never h

pub ancestor_first : (t : Tree) (p new : List ℕ) → Up t p new → Lands Ancestor t (p, None) every (new, None)
ancestor_first t p new s =
    let a : stands new p ≡ above = ap (stands new) s.to.1 ∙ stands-longer new s.to.0 [] in
    lands_from Ancestor t (p, None) every new s.exists (ancestor_axis (p, None) (new, None) ∙ over_on p new None a) refl
    (λ u k. ancestor_axis (p, None) (u, Some k) ∙ no_attribute_over (p, None) u k)
    (λ u h o g.
    let x = up_above (stands u p) (sym (ancestor_is p u) ∙ sym (ancestor_axis (p, None) (u, None)) ∙ o) in
    ancestor_further u new ∙ nothing_between u new p s.to.0 s.to.1 x)

pub root_is_top : (u : List ℕ) → is_earlier (stands u []) ≡ false
unfolding stands
root_is_top [] = refl
root_is_top (i ∷ u) = refl

pub ancestor_none : (t : Tree) (p : List ℕ) → p ≡ [] → Ends Ancestor t (p, None) every
ancestor_none t p e =
    ends_from Ancestor t (p, None) every (λ u k. ancestor_axis (p, None) (u, Some k) ∙ no_attribute_over (p, None) u k)
    (λ u h o.
    let x = up_is_earlier (stands u p) (sym (ancestor_is p u) ∙ sym (ancestor_axis (p, None) (u, None)) ∙ o) in
    let y : is_earlier (stands u []) ≡ true = subst (λ z. is_earlier (stands u z) ≡ true) e x in never (sym (root_is_top u) ∙ y))

pub owner_ancestor_first : (t : Tree) (p : List ℕ) (k : ℕ) → has_path t p ≡ true → Lands Ancestor t (p, Some k) every (p, None)
owner_ancestor_first t p k has =
    lands_from Ancestor t (p, Some k) every p has (ancestor_axis (p, Some k) (p, None) ∙ attribute_ancestor_is p p k ∙ ap is_over (stands-same p)) refl
    (λ u l. ancestor_axis (p, Some k) (u, Some l) ∙ no_attribute_over (p, Some k) u l)
    (λ u h o g.
    let x = over_parts p u (Some k) (sym (ancestor_axis (p, Some k) (u, None)) ∙ o) in
    ancestor_further u p ∙ under_not_earlier p u x)

up_passes : (q new : List ℕ) (i : ℕ) → q ≡ new ++ i ∷ [] → is_earlier (stands new q) ≡ true
up_passes q new i e = ap (λ z. is_earlier (stands new z)) e ∙ ap is_earlier (stands-longer new i [])

pub ancestor_next : (t : Tree) (p q new : List ℕ) (a : Option ℕ) → on_axis Ancestor (p, a) (q, None) ≡ true → Up t q new → Lands Ancestor t (p, a) (is_further Ancestor (q, None)) (new, None)
ancestor_next t p q new a o s =
    let oq = over_parts p q a (sym (ancestor_axis (p, a) (q, None)) ∙ o) in
    lands_from Ancestor t (p, a) (is_further Ancestor (q, None)) new s.exists (ancestor_axis (p, a) (new, None) ∙ over_on p new a (above_over p q new s.to.0 s.to.1 oq))
    (ancestor_further q new ∙ up_passes q new s.to.0 s.to.1) (λ u l. ancestor_axis (p, a) (u, Some l) ∙ no_attribute_over (p, a) u l)
    (λ u h o' g.
    let ou = over_parts p u a (sym (ancestor_axis (p, a) (u, None)) ∙ o') in
    let x = both_over p q u ou oq (sym (ancestor_further q u) ∙ g) in
    ancestor_further u new ∙ nothing_between u new q s.to.0 s.to.1 x)

pub ancestor_end : (t : Tree) (p q : List ℕ) (a : Option ℕ) → q ≡ [] → Ends Ancestor t (p, a) (is_further Ancestor (q, None))
ancestor_end t p q a e =
    ends_from Ancestor t (p, a) (is_further Ancestor (q, None)) (λ u l. ancestor_axis (p, a) (u, Some l) ∙ no_attribute_over (p, a) u l)
    (λ u h o. ancestor_further q u ∙ ap (λ z. is_earlier (stands u z)) e ∙ root_is_top u)
