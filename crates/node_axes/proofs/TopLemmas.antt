-- Where a step along an axis lands: the node itself and the nodes above, and attributes.
use Rattle.std.proofs.Common.{◌≡◌, ℕ, ◌+◌, ◌<◌, ◌≤◌, List, [], ◌∷◌, ◌++◌, length, Bool, true, false, ◌&&◌, ◌||◌, nat_lt, Option, Some, None, inl, inr, refl, sym, ap, subst, ◌∙◌, arith}
use Rattle.std.proofs.lemmas.Bool.{or_cases, or_left, or_right, lt-ltb, le-ltb, ltb-true}
use Rattle.xt_tree.specs.declared.trees.Tree.{Tree}
use Rattle.xt_tree.specs.Place.{subtree_at, subtree_attributes, has_attribute}
use Rattle.xt_tree.specs.TreeView.{attributes_of}
use Rattle.xt_tree.specs.Walk.{Spot}
use Rattle.xt_types.specs.declared.axes.Axis.TheVariants.{Child, Descendant, Attribute, FollowingSibling, PrecedingSibling, DescendantOrSelf, AncestorOrSelf}
use Rattle.node_axes.specs.Axes.{same_path, same_attribute, is_before, is_reverse, is_attribute, is_child, is_descendant, is_own_attribute, is_itself, is_ancestor, is_following_sibling, is_preceding_sibling, on_axis}
use Rattle.node_axes.specs.Course.{is_further}
use Rattle.node_axes.specs.Paths.{stands, is_earlier, is_over, has_path}
use Rattle.node_axes.specs.Moves.{attribute_count_at, Up, has_spot, Lands, Ends, every}
use Rattle.node_axes.proofs.PathLemmas.{stands-flip}
use Rattle.node_axes.proofs.LoopLemmas.{stands-same, stands-longer}
use Rattle.node_axes.proofs.AxisLemmas.{is_one, earlier_spot, before_is, same_path_is, attribute_ancestor_is}
use Rattle.node_axes.proofs.LandLemmas.{plain_before}
use Rattle.node_axes.proofs.UpLemmas.{itself_is, itself_on, path_is, not_after_same, not_before_same, over_parts, over_on, above_over, both_over, nothing_between, over_attribute, under_not_earlier, root_is_top}
use Rattle.xt_names.proofs.BoolLemmas.{never}

-- ---- the node itself and the nodes above
no_attribute_above : (n : Spot) (u : List ℕ) (k : ℕ) → is_ancestor n (u, Some k) ≡ true → ⊥
unfolding is_ancestor is_attribute
no_attribute_above n u k h = never h

attribute_before : (p u : List ℕ) (k : ℕ) → is_over (stands u p) ≡ true → is_before (p, Some k) (u, None) ≡ false
attribute_before p u k o = before_is p u (Some k) None ∙ ap (earlier_spot (Some k) None) (stands-flip u p) ∙ over_attribute k (stands u p) o

over_not_after : (p u : List ℕ) (a : Option ℕ) → is_over (stands u p) ≡ true → is_before (p, a) (u, None) ≡ false
over_not_after p u None o = plain_before p u ∙ under_not_earlier p u o
over_not_after p u (Some k) o = attribute_before p u k o

above_not_after : (n m : Spot) → is_ancestor n m ≡ true → is_before n m ≡ false
above_not_after (p, a) (u, None) h = over_not_after p u a (over_parts p u a h)
above_not_after (p, a) (u, Some k) h = absurd (no_attribute_above (p, a) u k h)

top_not_after : (n m : Spot) → on_axis AncestorOrSelf n m ≡ true → is_before n m ≡ false
unfolding on_axis
top_not_after n m h =
    elim (or_cases (is_itself n m) (is_ancestor n m) h) [ inl e ↦ not_after_same n m e | inr e ↦ above_not_after n m e ]

pub top_first : (t : Tree) (n : Spot) → has_spot t n ≡ true → Lands AncestorOrSelf t n every n
unfolding on_axis is_further is_reverse
top_first t n h = record { exists = h; on = or_left (is_itself n n) (is_ancestor n n) (itself_on n); passes = refl; first = λ m g o b. top_not_after n m o }

itself_over : (p u : List ℕ) (a b : Option ℕ) → is_itself (p, a) (u, b) ≡ true → is_over (stands u p) ≡ true
itself_over p u a b h =
    let e : p ≡ u = ap (λ (s : Spot). s.0) (itself_is (p, a) (u, b) h) in
    ap (λ z. is_over (stands u z)) e ∙ ap is_over (stands-same u)

top_over : (p u : List ℕ) (a : Option ℕ) → on_axis AncestorOrSelf (p, a) (u, None) ≡ true → is_over (stands u p) ≡ true
unfolding on_axis
top_over p u a h =
    elim (or_cases (is_itself (p, a) (u, None)) (is_ancestor (p, a) (u, None)) h)
    [ inl e ↦ itself_over p u a None e | inr e ↦ over_parts p u a e ]

top_attribute : (n : Spot) (u : List ℕ) (k : ℕ) → on_axis AncestorOrSelf n (u, Some k) ≡ true → is_itself n (u, Some k) ≡ true
unfolding on_axis
top_attribute n u k h =
    elim (or_cases (is_itself n (u, Some k)) (is_ancestor n (u, Some k)) h) [ inl e ↦ e | inr e ↦ absurd (no_attribute_above n u k e) ]

top_on : (p u : List ℕ) (a : Option ℕ) → is_ancestor (p, a) (u, None) ≡ true → on_axis AncestorOrSelf (p, a) (u, None) ≡ true
unfolding on_axis
top_on p u a h = or_right (is_itself (p, a) (u, None)) (is_ancestor (p, a) (u, None)) h

-- the node itself, where it is an attribute, comes before each node above
own_not_further : (p q u : List ℕ) (a : Option ℕ) (k : ℕ) → on_axis AncestorOrSelf (p, a) (q, None) ≡ true → on_axis AncestorOrSelf (p, a) (u, Some k) ≡ true
    → is_before (u, Some k) (q, None) ≡ false
own_not_further p q u a k o h =
    let e = itself_is (p, a) (u, Some k) (top_attribute (p, a) u k h) in
    subst (λ z. is_before z (q, None) ≡ false) e (over_not_after p q a (top_over p q a o))

top_next_first : (t : Tree) (p q new : List ℕ) (a : Option ℕ) (i : ℕ) → on_axis AncestorOrSelf (p, a) (q, None) ≡ true → q ≡ new ++ i ∷ [] → (m : Spot)
    → on_axis AncestorOrSelf (p, a) m ≡ true → is_before m (q, None) ≡ true → is_before (new, None) m ≡ false
top_next_first t p q new a i o e (u, None) h g =
    let x = both_over p q u (top_over p u a h) (top_over p q a o) (sym (plain_before u q) ∙ g) in
    plain_before new u ∙ nothing_between u new q i e x
top_next_first t p q new a i o e (u, Some k) h g = never (sym (own_not_further p q u a k o h) ∙ g)

pub top_next : (t : Tree) (p q new : List ℕ) (a : Option ℕ) → on_axis AncestorOrSelf (p, a) (q, None) ≡ true → Up t q new → Lands AncestorOrSelf t (p, a) (is_further AncestorOrSelf (q, None)) (new, None)
unfolding is_further is_reverse has_spot has_path
top_next t p q new a o s = record {
  exists = s.exists;
  on = top_on p new a (over_on p new a (above_over p q new s.to.0 s.to.1 (top_over p q a o)));
  passes = plain_before new q ∙ ap (λ z. is_earlier (stands new z)) s.to.1 ∙ ap is_earlier (stands-longer new s.to.0 []);
  first = λ m h o' g. top_next_first t p q new a s.to.0 o s.to.1 m o' g;
}

top_end_of : (p q : List ℕ) (a : Option ℕ) → on_axis AncestorOrSelf (p, a) (q, None) ≡ true → q ≡ [] → (m : Spot) → on_axis AncestorOrSelf (p, a) m ≡ true → is_before m (q, None) ≡ false
top_end_of p q a o e (u, None) h = plain_before u q ∙ ap (λ z. is_earlier (stands u z)) e ∙ root_is_top u
top_end_of p q a o e (u, Some k) h = own_not_further p q u a k o h

pub top_end : (t : Tree) (p q : List ℕ) (a : Option ℕ) → on_axis AncestorOrSelf (p, a) (q, None) ≡ true → q ≡ [] → Ends AncestorOrSelf t (p, a) (is_further AncestorOrSelf (q, None))
unfolding is_further is_reverse
top_end t p q a o e m h o' = top_end_of p q a o e m o'

owner_next_first : (q : List ℕ) (k : ℕ) (m : Spot) → on_axis AncestorOrSelf (q, Some k) m ≡ true → is_before m (q, Some k) ≡ true → is_before (q, None) m ≡ false
owner_next_first q k (u, None) h g = plain_before q u ∙ under_not_earlier q u (top_over q u (Some k) h)
owner_next_first q k (u, Some l) h g = never (sym (not_before_same (q, Some k) (u, Some l) (top_attribute (q, Some k) u l h)) ∙ g)

owner_next : (t : Tree) (q : List ℕ) (k : ℕ) → has_path t q ≡ true → Lands AncestorOrSelf t (q, Some k) (is_further AncestorOrSelf (q, Some k)) (q, None)
unfolding is_further is_reverse has_spot has_path
owner_next t q k h = record {
  exists = h;
  on = top_on q q (Some k) (attribute_ancestor_is q q k ∙ ap is_over (stands-same q));
  passes = before_is q q None (Some k) ∙ ap (earlier_spot None (Some k)) (stands-same q);
  first = λ m g o b. owner_next_first q k m o b;
}

-- from an attribute to its element
pub top_owner : (t : Tree) (n : Spot) (q : List ℕ) (k : ℕ) → has_path t q ≡ true → on_axis AncestorOrSelf n (q, Some k) ≡ true
    → Lands AncestorOrSelf t n (is_further AncestorOrSelf (q, Some k)) (q, None)
top_owner t n q k h o =
    let e = itself_is n (q, Some k) (top_attribute n q k o) in
    subst (λ z. Lands AncestorOrSelf t z (is_further AncestorOrSelf (q, Some k)) (q, None)) (sym e) (owner_next t q k h)

-- ---- attributes
has_one : (o : Option Tree) (i : ℕ) → i < length (subtree_attributes o) → has_attribute o (Some i) ≡ true
has_one None i l = absurd (omega arith)
has_one (Some s) i l = lt-ltb i (length (attributes_of s)) l

one_of : (o : Option Tree) (i : ℕ) → has_attribute o (Some i) ≡ true → i < length (subtree_attributes o)
one_of None i h = never h
one_of (Some s) i h = ltb-true i (length (attributes_of s)) h

attribute_order : (u v : List ℕ) (i j : ℕ) → u ≡ v → is_before (u, Some i) (v, Some j) ≡ nat_lt i j
attribute_order u v i j e = before_is u v (Some i) (Some j) ∙ ap (λ z. earlier_spot (Some i) (Some j) (stands u z)) (sym e) ∙ ap (earlier_spot (Some i) (Some j)) (stands-same u)

attribute_axis : (p u : List ℕ) (k : ℕ) → on_axis Attribute (p, None) (u, Some k) ≡ same_path p u
unfolding on_axis is_own_attribute is_attribute
attribute_axis p u k = refl

pub no_element : (p u : List ℕ) → on_axis Attribute (p, None) (u, None) ≡ false
unfolding on_axis is_own_attribute is_attribute
no_element p u = refl

own_path : (p u : List ℕ) (k : ℕ) → on_axis Attribute (p, None) (u, Some k) ≡ true → p ≡ u
own_path p u k h = path_is p u (sym (attribute_axis p u k) ∙ h)

own_on : (p : List ℕ) (k : ℕ) → on_axis Attribute (p, None) (p, Some k) ≡ true
own_on p k = attribute_axis p p k ∙ same_path_is p p ∙ ap is_one (stands-same p)

own_first_of : (p : List ℕ) (m : Spot) → on_axis Attribute (p, None) m ≡ true → is_before m (p, Some 0) ≡ false
own_first_of p (u, None) h = never (sym (no_element p u) ∙ h)
own_first_of p (u, Some l) h = attribute_order u p l 0 (sym (own_path p u l h)) ∙ le-ltb l 0 (omega arith)

pub own_first : (t : Tree) (p : List ℕ) → 0 < attribute_count_at t p → Lands Attribute t (p, None) every (p, Some 0)
unfolding is_further is_reverse has_spot
own_first t p l = record { exists = has_one (subtree_at t p) 0 l; on = own_on p 0; passes = refl; first = λ m g o b. own_first_of p m o }

own_none_of : (t : Tree) (p : List ℕ) (m : Spot) → attribute_count_at t p ≡ 0 → has_spot t m ≡ true → on_axis Attribute (p, None) m ≡ true → true ≡ false
unfolding has_spot
own_none_of t p (u, None) n h o = never (sym (no_element p u) ∙ o)
own_none_of t p (u, Some l) n h o =
    let e = own_path p u l o in
    let x : has_attribute (subtree_at t p) (Some l) ≡ true = subst (λ z. has_attribute (subtree_at t z) (Some l) ≡ true) (sym e) h in
    let y = one_of (subtree_at t p) l x in absurd (omega arith)

pub own_none : (t : Tree) (p : List ℕ) → attribute_count_at t p ≡ 0 → Ends Attribute t (p, None) every
own_none t p n m h o = own_none_of t p m n h o

own_next_of : (p q : List ℕ) (k : ℕ) → p ≡ q → (m : Spot) → on_axis Attribute (p, None) m ≡ true → is_before (q, Some k) m ≡ true → is_before m (q, Some (k + 1)) ≡ false
own_next_of p q k e (u, None) h g = never (sym (no_element p u) ∙ h)
own_next_of p q k e (u, Some l) h g =
    let f = sym e ∙ own_path p u l h in
    let x = ltb-true k l (sym (attribute_order q u k l f) ∙ g) in
    attribute_order u q l (k + 1) (sym f) ∙ le-ltb l (k + 1) (omega arith)

own_next_at : (t : Tree) (p q : List ℕ) (k : ℕ) → p ≡ q → k + 1 < attribute_count_at t q → Lands Attribute t (p, None) (is_further Attribute (q, Some k)) (q, Some (k + 1))
unfolding is_further is_reverse has_spot
own_next_at t p q k e l = record {
  exists = has_one (subtree_at t q) (k + 1) l;
  on = ap (λ z. on_axis Attribute (z, None) (q, Some (k + 1))) e ∙ own_on q (k + 1);
  passes = attribute_order q q k (k + 1) refl ∙ lt-ltb k (k + 1) (omega arith);
  first = λ m h o g. own_next_of p q k e m o g;
}

-- only an element has attributes
pub not_of_attribute : (p : List ℕ) (k : ℕ) (m : Spot) → on_axis Attribute (p, Some k) m ≡ false
unfolding on_axis is_own_attribute is_attribute
not_of_attribute p k m = refl

pub own_next : (t : Tree) (n : Spot) (q : List ℕ) (k : ℕ) → on_axis Attribute n (q, Some k) ≡ true → k + 1 < attribute_count_at t q → Lands Attribute t n (is_further Attribute (q, Some k)) (q, Some (k + 1))
own_next t (p, None) q k o l = own_next_at t p q k (own_path p q k o) l
own_next t (p, Some x) q k o l = never (sym (not_of_attribute p x (q, Some k)) ∙ o)

own_end_of : (t : Tree) (p q : List ℕ) (k : ℕ) → p ≡ q → attribute_count_at t q ≤ k + 1 → (m : Spot) → has_spot t m ≡ true → on_axis Attribute (p, None) m ≡ true → is_before (q, Some k) m ≡ false
unfolding has_spot
own_end_of t p q k e n (u, None) h o = never (sym (no_element p u) ∙ o)
own_end_of t p q k e n (u, Some l) h o =
    let f = sym e ∙ own_path p u l o in
    let x : has_attribute (subtree_at t q) (Some l) ≡ true = subst (λ z. has_attribute (subtree_at t z) (Some l) ≡ true) (sym f) h in
    let y = one_of (subtree_at t q) l x in
    attribute_order q u k l f ∙ le-ltb k l (omega arith)

pub own_end : (t : Tree) (n : Spot) (q : List ℕ) (k : ℕ) → on_axis Attribute n (q, Some k) ≡ true → attribute_count_at t q ≤ k + 1 → Ends Attribute t n (is_further Attribute (q, Some k))
unfolding is_further is_reverse
own_end t (p, None) q k o n m h o' = own_end_of t p q k (own_path p q k o) n m h o'
own_end t (p, Some x) q k o n m h o' = never (sym (not_of_attribute p x m) ∙ o')

-- ---- an attribute has no child, descendant, attribute or sibling
pub attribute_none : (t : Tree) (p : List ℕ) (k : ℕ) (b : Spot → Bool) → Ends Attribute t (p, Some k) b
attribute_none t p k b m h o = never (sym (not_of_attribute p k m) ∙ o)

pub not_child : (p : List ℕ) (k : ℕ) (m : Spot) → on_axis Child (p, Some k) m ≡ false
unfolding on_axis is_child is_attribute
not_child p k m = refl

pub child_none_of : (t : Tree) (p : List ℕ) (k : ℕ) (b : Spot → Bool) → Ends Child t (p, Some k) b
child_none_of t p k b m h o = never (sym (not_child p k m) ∙ o)

pub not_descendant : (p : List ℕ) (k : ℕ) (m : Spot) → on_axis Descendant (p, Some k) m ≡ false
unfolding on_axis is_descendant is_attribute
not_descendant p k m = refl

pub below_none_of : (t : Tree) (p : List ℕ) (k : ℕ) (b : Spot → Bool) → Ends Descendant t (p, Some k) b
below_none_of t p k b m h o = never (sym (not_descendant p k m) ∙ o)

pub not_following : (p : List ℕ) (k : ℕ) (m : Spot) → on_axis FollowingSibling (p, Some k) m ≡ false
unfolding on_axis is_following_sibling is_attribute
not_following p k m = refl

pub right_none_of : (t : Tree) (p : List ℕ) (k : ℕ) (b : Spot → Bool) → Ends FollowingSibling t (p, Some k) b
right_none_of t p k b m h o = never (sym (not_following p k m) ∙ o)

pub not_preceding : (p : List ℕ) (k : ℕ) (m : Spot) → on_axis PrecedingSibling (p, Some k) m ≡ false
unfolding on_axis is_preceding_sibling is_attribute
not_preceding p k m = refl

pub left_none_of : (t : Tree) (p : List ℕ) (k : ℕ) (b : Spot → Bool) → Ends PrecedingSibling t (p, Some k) b
left_none_of t p k b m h o = never (sym (not_preceding p k m) ∙ o)

not_with_cases : (x : Bool) → ((x && false) || false) ≡ false
not_with_cases true = refl
not_with_cases false = refl

pub not_with : (p : List ℕ) (k : ℕ) (u : List ℕ) → on_axis DescendantOrSelf (p, Some k) (u, None) ≡ false
unfolding on_axis is_itself is_descendant is_attribute same_attribute
not_with p k u = not_with_cases (same_path p u)
