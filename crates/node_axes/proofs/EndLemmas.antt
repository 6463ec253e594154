-- Steps from and to attributes.
use Rattle.std.proofs.Common.{◌≡◌, ◌≢◌, ℕ, ◌+◌, ◌<◌, ◌≤◌, List, true, Option, Some, None, inl, inr, refl, sym, ap, subst, ◌∙◌, arith}
use Rattle.std.proofs.lemmas.Bool.{cases_lt}
use Rattle.xt_tree.specs.declared.trees.Tree.{Tree}
use Rattle.xt_tree.specs.Place.{subtree_at, has_attribute}
use Rattle.xt_tree.specs.Walk.{Spot}
use Rattle.xt_types.specs.declared.axes.Axis.{Axis}
use Rattle.xt_types.specs.declared.axes.Axis.TheVariants.{Child, Descendant, Attribute, Itself, DescendantOrSelf, FollowingSibling, Following, Parent, Ancestor, PrecedingSibling, Preceding, AncestorOrSelf}
use Rattle.node_axes.specs.Axes.{on_axis, is_attribute, is_child, is_descendant, is_parent, is_ancestor, is_following_sibling, is_preceding_sibling}
use Rattle.node_axes.specs.Course.{is_further}
use Rattle.node_axes.specs.Paths.{has_path}
use Rattle.node_axes.specs.Moves.{attribute_count_at, has_spot, Lands, Ends, every}
use Rattle.node_axes.proofs.DownLemmas.{no_attribute_follows, no_attribute_precedes}
use Rattle.node_axes.proofs.UpLemmas.{itself_end, with_attribute_end}
use Rattle.node_axes.proofs.TopLemmas.{own_first, own_none, own_next, own_end, top_owner}
use Rattle.node_axes.proofs.AnyLemmas.{on_next, on_end, on_as}
use Rattle.xt_names.proofs.BoolLemmas.{never}

path_step : (o : Option Tree) (k : ℕ) → has_attribute o (Some k) ≡ true → has_attribute o None ≡ true
path_step None k h = never h
path_step (Some s) k h = refl

pub spot_path : (t : Tree) (p : List ℕ) (a : Option ℕ) → has_spot t (p, a) ≡ true → has_path t p ≡ true
unfolding has_spot has_path
spot_path t p None h = h
spot_path t p (Some k) h = path_step (subtree_at t p) k h

pub start_path : (t : Tree) (p old : List ℕ) (a : Option ℕ) → old ≡ p → has_spot t (p, a) ≡ true → has_path t old ≡ true
start_path t p old a e h = subst (λ z. has_path t z ≡ true) (sym e) (spot_path t p a h)

pub spot_as : (t : Tree) (p old : List ℕ) (a c : Option ℕ) → old ≡ p → c ≡ a → has_spot t (p, a) ≡ true → has_spot t (old, c) ≡ true
spot_as t p old a c e f h = subst (λ z. has_spot t (old, z) ≡ true) (sym f) (subst (λ z. has_spot t (z, a) ≡ true) (sym e) h)

pub own_first_at : (t : Tree) (p q : List ℕ) (i : ℕ) → q ≡ p → 0 < attribute_count_at t q → i ≡ 0 → Lands Attribute t (p, None) every (p, Some i)
own_first_at t p q i e l f =
    let c = ap (attribute_count_at t) e in
    subst (λ z. Lands Attribute t (p, None) every (p, Some z)) (sym f) (own_first t p (omega arith))

pub own_none_at : (t : Tree) (p q : List ℕ) → q ≡ p → (0 < attribute_count_at t q → ⊥) → Ends Attribute t (p, None) every
own_none_at t p q e n =
    let c = ap (attribute_count_at t) e in
    let z : attribute_count_at t q ≤ 0 = elim (cases_lt 0 (attribute_count_at t q)) [ inl u ↦ absurd (n u) | inr v ↦ v ] in
    own_none t p (omega arith)

pub own_next_at : (axis : Axis) (t t' : Tree) (n : Spot) (q q' : List ℕ) (a : Option ℕ) (k i : ℕ) → axis ≡ Attribute → t' ≡ t → q' ≡ q → a ≡ Some k → on_axis axis n (q, a) ≡ true
    → k + 1 < attribute_count_at t' q' → i ≡ k + 1 → Lands axis t n (is_further axis (q, a)) (q, Some i)
own_next_at axis t t' n q q' a k i h g e f o l j =
    let c = ap (attribute_count_at t') e in
    let o' : on_axis Attribute n (q, Some k) ≡ true = subst (λ z. on_axis Attribute n (q, z) ≡ true) f (on_as axis Attribute n (q, a) h o) in
    let s : Lands Attribute t' n (is_further Attribute (q, Some k)) (q, Some (k + 1)) = own_next t' n q k o' (omega arith) in
    let s' : Lands Attribute t' n (is_further Attribute (q, a)) (q, Some (k + 1)) = subst (λ z. Lands Attribute t' n (is_further Attribute (q, z)) (q, Some (k + 1))) (sym f) s in
    on_next axis Attribute t t' n (q, a) (q, Some i) h g (subst (λ z. Lands Attribute t' n (is_further Attribute (q, a)) (q, Some z)) (sym j) s')

pub own_end_at : (axis : Axis) (t t' : Tree) (n : Spot) (q q' : List ℕ) (a : Option ℕ) (k : ℕ) → axis ≡ Attribute → t' ≡ t → q' ≡ q → a ≡ Some k → on_axis axis n (q, a) ≡ true
    → (k + 1 < attribute_count_at t' q' → ⊥) → Ends axis t n (is_further axis (q, a))
own_end_at axis t t' n q q' a k h g e f o m =
    let c = ap (attribute_count_at t') e in
    let z : attribute_count_at t' q' ≤ k + 1 = elim (cases_lt (k + 1) (attribute_count_at t' q')) [ inl u ↦ absurd (m u) | inr v ↦ v ] in
    let o' : on_axis Attribute n (q, Some k) ≡ true = subst (λ z. on_axis Attribute n (q, z) ≡ true) f (on_as axis Attribute n (q, a) h o) in
    let s : Ends Attribute t' n (is_further Attribute (q, Some k)) = own_end t' n q k o' (omega arith) in
    on_end axis Attribute t t' n (q, a) h g (subst (λ z. Ends Attribute t' n (is_further Attribute (q, z))) (sym f) s)

pub top_owner_at : (axis : Axis) (t : Tree) (n : Spot) (q : List ℕ) (a : Option ℕ) (k : ℕ) → axis ≡ AncestorOrSelf → a ≡ Some k → has_spot t (q, a) ≡ true → on_axis axis n (q, a) ≡ true
    → Lands axis t n (is_further axis (q, a)) (q, None)
top_owner_at axis t n q a k h f s o =
    let o' : on_axis AncestorOrSelf n (q, Some k) ≡ true = subst (λ z. on_axis AncestorOrSelf n (q, z) ≡ true) f (on_as axis AncestorOrSelf n (q, a) h o) in
    let l = top_owner t n q k (spot_path t q a s) o' in
    on_next axis AncestorOrSelf t t n (q, a) (q, None) h refl (subst (λ z. Lands AncestorOrSelf t n (is_further AncestorOrSelf (q, z)) (q, None)) (sym f) l)

-- which axes have attributes
off_child : (n : Spot) (q : List ℕ) (k : ℕ) → on_axis Child n (q, Some k) ≡ true → ⊥
unfolding on_axis is_child is_attribute
off_child (p, None) q k h = never h
off_child (p, Some l) q k h = never h

off_descendant : (n : Spot) (q : List ℕ) (k : ℕ) → on_axis Descendant n (q, Some k) ≡ true → ⊥
unfolding on_axis is_descendant is_attribute
off_descendant (p, None) q k h = never h
off_descendant (p, Some l) q k h = never h

off_right : (n : Spot) (q : List ℕ) (k : ℕ) → on_axis FollowingSibling n (q, Some k) ≡ true → ⊥
unfolding on_axis is_following_sibling is_attribute
off_right (p, None) q k h = never h
off_right (p, Some l) q k h = never h

off_left : (n : Spot) (q : List ℕ) (k : ℕ) → on_axis PrecedingSibling n (q, Some k) ≡ true → ⊥
unfolding on_axis is_preceding_sibling is_attribute
off_left (p, None) q k h = never h
off_left (p, Some l) q k h = never h

off_parent : (n : Spot) (q : List ℕ) (k : ℕ) → on_axis Parent n (q, Some k) ≡ true → ⊥
unfolding on_axis is_parent is_attribute
off_parent n q k h = never h

off_ancestor : (n : Spot) (q : List ℕ) (k : ℕ) → on_axis Ancestor n (q, Some k) ≡ true → ⊥
unfolding on_axis is_ancestor is_attribute
off_ancestor n q k h = never h

other_end : (axis : Axis) (t : Tree) (n : Spot) (q : List ℕ) (k : ℕ) → axis ≢ Attribute → axis ≢ AncestorOrSelf → on_axis axis n (q, Some k) ≡ true → Ends axis t n (is_further axis (q, Some k))
other_end Child t n q k a b o = absurd (off_child n q k o)
other_end Descendant t n q k a b o = absurd (off_descendant n q k o)
other_end Attribute t n q k a b o = absurd (a refl)
other_end Itself t n q k a b o = itself_end t n (q, Some k) o
other_end DescendantOrSelf t n q k a b o = with_attribute_end t n q k o
other_end FollowingSibling t n q k a b o = absurd (off_right n q k o)
other_end Following t n q k a b o = never (sym (no_attribute_follows n q k) ∙ o)
other_end Parent t n q k a b o = absurd (off_parent n q k o)
other_end Ancestor t n q k a b o = absurd (off_ancestor n q k o)
other_end PrecedingSibling t n q k a b o = absurd (off_left n q k o)
other_end Preceding t n q k a b o = never (sym (no_attribute_precedes n q k) ∙ o)
other_end AncestorOrSelf t n q k a b o = absurd (b refl)

pub other_end_at : (axis : Axis) (t : Tree) (n : Spot) (q : List ℕ) (c : Option ℕ) (k : ℕ) → axis ≢ Attribute → axis ≢ AncestorOrSelf → c ≡ Some k → on_axis axis n (q, c) ≡ true
    → Ends axis t n (is_further axis (q, c))
other_end_at axis t n q c k a b f o =
    let o' : on_axis axis n (q, Some k) ≡ true = subst (λ z. on_axis axis n (q, z) ≡ true) f o in
    subst (λ z. Ends axis t n (is_further axis (q, z))) (sym f) (other_end axis t n q k a b o')
