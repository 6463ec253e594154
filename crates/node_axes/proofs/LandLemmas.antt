-- Where a step along an axis lands: the axes that go down or along.
use Rattle.std.proofs.Common.{◌≡◌, ℕ, ◌+◌, ◌<◌, ◌≤◌, List, [], ◌∷◌, ◌++◌, Bool, true, false, Some, None, ◌⊎◌, inl, inr, refl, sym, ap, subst, ◌∙◌, arith}
use Rattle.std.proofs.lemmas.Bool.{false_from_ne_true}
use Rattle.std.specs.Ordering.{nat_cmp}
use Rattle.xt_tree.specs.declared.trees.Tree.{Tree}
use Rattle.xt_tree.specs.Walk.{Spot}
use Rattle.xt_types.specs.declared.axes.Axis.{Axis}
use Rattle.xt_types.specs.declared.axes.Axis.TheVariants.{Child, FollowingSibling}
use Rattle.node_axes.specs.Axes.{is_later_sibling, is_before, is_reverse, is_attribute, is_child, is_following_sibling, on_axis}
use Rattle.node_axes.specs.Course.{is_further}
use Rattle.node_axes.specs.Paths.{Stands, before, above, same, below, after, then_stands, stands, is_before_all, is_earlier, has_path}
use Rattle.node_axes.specs.Moves.{count_at, Down, Right, NoRight, has_spot, Lands, Ends, every}
use Rattle.node_axes.proofs.PathLemmas.{Places, places, cmp_less, cmp_equal, stands-append, next_child, first_child, kid_within}
use Rattle.node_axes.proofs.MoveLemmas.{push_inj}
use Rattle.node_axes.proofs.LoopLemmas.{stands-longer, next_stands}
use Rattle.node_axes.proofs.AxisLemmas.{earlier_spot, before_is, child_parts, child_on, Siblings, siblings_parts, siblings_on}
use Rattle.xt_names.proofs.BoolLemmas.{never}

none_earlier : (s : Stands) → earlier_spot None None s ≡ is_earlier s
none_earlier before = refl
none_earlier above = refl
none_earlier same = refl
none_earlier below = refl
none_earlier after = refl

-- order of two nodes that are no attributes
pub plain_before : (u v : List ℕ) → is_before (u, None) (v, None) ≡ is_earlier (stands u v)
plain_before u v = before_is u v None None ∙ none_earlier (stands u v)

-- parts of a spot that is further on
parts_before : (i j : ℕ) (a : Stands) → is_before_all (then_stands (nat_cmp i j) a) ≡ true → Places i j → (i < j) ⊎ ((i ≡ j) × (is_before_all a ≡ true))
parts_before i j a h (inl p) = inl p.0
parts_before i j a h (inr (inl p)) = inr (p.0, sym (ap (λ o. is_before_all (then_stands o a)) p.1) ∙ h)
parts_before i j a h (inr (inr p)) = never (sym (ap (λ o. is_before_all (then_stands o a)) p.1) ∙ h)

parts_earlier : (i j : ℕ) (a : Stands) → is_earlier (then_stands (nat_cmp i j) a) ≡ true → Places i j → (i < j) ⊎ ((i ≡ j) × (is_earlier a ≡ true))
parts_earlier i j a h (inl p) = inl p.0
parts_earlier i j a h (inr (inl p)) = inr (p.0, sym (ap (λ o. is_earlier (then_stands o a)) p.1) ∙ h)
parts_earlier i j a h (inr (inr p)) = never (sym (ap (λ o. is_earlier (then_stands o a)) p.1) ∙ h)

less_before : (i j : ℕ) (a : Stands) → i < j → is_before_all (then_stands (nat_cmp i j) a) ≡ true
less_before i j a h = ap (λ o. is_before_all (then_stands o a)) (cmp_less i j h)

less_earlier : (i j : ℕ) (a : Stands) → i < j → is_earlier (then_stands (nat_cmp i j) a) ≡ true
less_earlier i j a h = ap (λ o. is_earlier (then_stands o a)) (cmp_less i j h)

equal_before : (i j : ℕ) (a : Stands) → i ≡ j → is_before_all a ≡ true → is_before_all (then_stands (nat_cmp i j) a) ≡ true
equal_before i j a e h = ap (λ k. is_before_all (then_stands (nat_cmp i k) a)) (sym e) ∙ ap (λ o. is_before_all (then_stands o a)) (cmp_equal i) ∙ h

equal_earlier : (i j : ℕ) (a : Stands) → i ≡ j → is_earlier a ≡ true → is_earlier (then_stands (nat_cmp i j) a) ≡ true
equal_earlier i j a e h = ap (λ k. is_earlier (then_stands (nat_cmp i k) a)) (sym e) ∙ ap (λ o. is_earlier (then_stands o a)) (cmp_equal i) ∙ h

before_chain : (i j k : ℕ) (a b c : Stands) → (is_before_all a ≡ true → is_earlier b ≡ true → is_before_all c ≡ true)
    → (i < j) ⊎ ((i ≡ j) × (is_before_all a ≡ true)) → (j < k) ⊎ ((j ≡ k) × (is_earlier b ≡ true)) → is_before_all (then_stands (nat_cmp i k) c) ≡ true
before_chain i j k a b c f (inl x) (inl y) = less_before i k c (omega arith)
before_chain i j k a b c f (inl x) (inr y) = less_before i k c (omega arith)
before_chain i j k a b c f (inr x) (inl y) = less_before i k c (omega arith)
before_chain i j k a b c f (inr x) (inr y) = equal_before i k c (omega arith) (f x.1 y.1)

earlier_chain : (i j k : ℕ) (a b c : Stands) → (is_earlier a ≡ true → is_earlier b ≡ true → is_earlier c ≡ true)
    → (i < j) ⊎ ((i ≡ j) × (is_earlier a ≡ true)) → (j < k) ⊎ ((j ≡ k) × (is_earlier b ≡ true)) → is_earlier (then_stands (nat_cmp i k) c) ≡ true
earlier_chain i j k a b c f (inl x) (inl y) = less_earlier i k c (omega arith)
earlier_chain i j k a b c f (inl x) (inr y) = less_earlier i k c (omega arith)
earlier_chain i j k a b c f (inr x) (inl y) = less_earlier i k c (omega arith)
earlier_chain i j k a b c f (inr x) (inr y) = equal_earlier i k c (omega arith) (f x.1 y.1)

pub before_trans : (p q r : List ℕ) → is_before_all (stands p q) ≡ true → is_earlier (stands q r) ≡ true → is_before_all (stands p r) ≡ true
unfolding stands
before_trans [] [] r h g = never h
before_trans [] (j ∷ q) r h g = never h
before_trans (i ∷ p) [] r h g = never h
before_trans (i ∷ p) (j ∷ q) [] h g = never g
before_trans (i ∷ p) (j ∷ q) (k ∷ r) h g =
    before_chain i j k (stands p q) (stands q r) (stands p r) (λ x y. before_trans p q r x y) (parts_before i j (stands p q) h (places i j)) (parts_earlier j k (stands q r) g (places j k))

pub earlier_trans : (p q r : List ℕ) → is_earlier (stands p q) ≡ true → is_earlier (stands q r) ≡ true → is_earlier (stands p r) ≡ true
unfolding stands
earlier_trans [] [] r h g = never h
earlier_trans [] (j ∷ q) [] h g = never g
earlier_trans [] (j ∷ q) (k ∷ r) h g = refl
earlier_trans (i ∷ p) [] r h g = never h
earlier_trans (i ∷ p) (j ∷ q) [] h g = never g
earlier_trans (i ∷ p) (j ∷ q) (k ∷ r) h g =
    earlier_chain i j k (stands p q) (stands q r) (stands p r) (λ x y. earlier_trans p q r x y) (parts_earlier i j (stands p q) h (places i j)) (parts_earlier j k (stands q r) g (places j k))

-- what lands on a node that is no attribute, of an axis without attributes
first_of_spots : (axis : Axis) (t : Tree) (n : Spot) (b : Spot → Bool) (new : Spot) (m : Spot)
    → ((u : List ℕ) (k : ℕ) → on_axis axis n (u, Some k) ≡ false)
    → ((u : List ℕ) → has_path t u ≡ true → on_axis axis n (u, None) ≡ true → b (u, None) ≡ true → is_further axis (u, None) new ≡ false)
    → has_spot t m ≡ true → on_axis axis n m ≡ true → b m ≡ true → is_further axis m new ≡ false
unfolding has_spot has_path
first_of_spots axis t n b new (u, None) none first h o g = first u h o g
first_of_spots axis t n b new (u, Some k) none first h o g = never (sym (none u k) ∙ o)

pub lands_from : (axis : Axis) (t : Tree) (n : Spot) (b : Spot → Bool) (new : List ℕ) → has_path t new ≡ true → on_axis axis n (new, None) ≡ true → b (new, None) ≡ true
    → ((u : List ℕ) (k : ℕ) → on_axis axis n (u, Some k) ≡ false)
    → ((u : List ℕ) → has_path t u ≡ true → on_axis axis n (u, None) ≡ true → b (u, None) ≡ true → is_further axis (u, None) (new, None) ≡ false)
    → Lands axis t n b (new, None)
unfolding has_spot has_path
lands_from axis t n b new h o g none first = record { exists = h; on = o; passes = g; first = λ m. first_of_spots axis t n b (new, None) m none first }

end_of_spots : (axis : Axis) (t : Tree) (n : Spot) (b : Spot → Bool) (m : Spot)
    → ((u : List ℕ) (k : ℕ) → on_axis axis n (u, Some k) ≡ false)
    → ((u : List ℕ) → has_path t u ≡ true → on_axis axis n (u, None) ≡ true → b (u, None) ≡ false)
    → has_spot t m ≡ true → on_axis axis n m ≡ true → b m ≡ false
unfolding has_spot has_path
end_of_spots axis t n b (u, None) none last h o = last u h o
end_of_spots axis t n b (u, Some k) none last h o = never (sym (none u k) ∙ o)

pub ends_from : (axis : Axis) (t : Tree) (n : Spot) (b : Spot → Bool)
    → ((u : List ℕ) (k : ℕ) → on_axis axis n (u, Some k) ≡ false)
    → ((u : List ℕ) → has_path t u ≡ true → on_axis axis n (u, None) ≡ true → b (u, None) ≡ false)
    → Ends axis t n b
ends_from axis t n b none last m h o = end_of_spots axis t n b m none last h o

-- ---- children
no_attribute_child : (p u : List ℕ) (k : ℕ) → on_axis Child (p, None) (u, Some k) ≡ false
unfolding on_axis is_child is_attribute
no_attribute_child p u k = refl

child_axis : (p u : List ℕ) → on_axis Child (p, None) (u, None) ≡ is_child (p, None) (u, None)
unfolding on_axis
child_axis p u = refl

child_further : (u v : List ℕ) → is_further Child (u, None) (v, None) ≡ is_earlier (stands u v)
unfolding is_further is_reverse
child_further u v = plain_before u v

pub child_first : (t : Tree) (p new : List ℕ) → Down t p new → Lands Child t (p, None) every (new, None)
child_first t p new d =
    lands_from Child t (p, None) every new d.exists (child_axis p new ∙ ap (λ z. is_child (p, None) (z, None)) d.to ∙ child_on p 0) refl (λ u k. no_attribute_child p u k)
    (λ u h o g.
    let x = child_parts p u (sym (child_axis p u) ∙ o) in
    let e : is_earlier (stands p u) ≡ true = ap (λ z. is_earlier (stands p z)) x.1 ∙ ap is_earlier (stands-longer p x.0 []) in
    child_further u new ∙ ap (λ z. is_earlier (stands u z)) d.to ∙ first_child p u e)

childless : (t : Tree) (p u : List ℕ) (j : ℕ) → count_at t p ≡ 0 → has_path t u ≡ true → u ≡ p ++ j ∷ [] → ⊥
childless t p u j n h e =
    let w = kid_within t p j [] (subst (λ z. has_path t z ≡ true) e h) in omega arith

pub child_none : (t : Tree) (p : List ℕ) → count_at t p ≡ 0 → Ends Child t (p, None) every
child_none t p n =
    ends_from Child t (p, None) every (λ u k. no_attribute_child p u k)
    (λ u h o. let x = child_parts p u (sym (child_axis p u) ∙ o) in absurd (childless t p u x.0 n h x.1))

beside_cases : (j l : ℕ) → Places j l → is_earlier (then_stands (nat_cmp j l) same) ≡ true → j < l
beside_cases j l (inl h) e = h.0
beside_cases j l (inr (inl h)) e = never (sym (ap (λ o. is_earlier (then_stands o same)) h.1) ∙ e)
beside_cases j l (inr (inr h)) e = never (sym (ap (λ o. is_earlier (then_stands o same)) h.1) ∙ e)

beside : (j l : ℕ) → stands (j ∷ []) (l ∷ []) ≡ then_stands (nat_cmp j l) same
unfolding stands
beside j l = refl

-- of two children the earlier one has the smaller place
pub smaller : (f : List ℕ) (j l : ℕ) → is_earlier (stands (f ++ j ∷ []) (f ++ l ∷ [])) ≡ true → j < l
smaller f j l h = beside_cases j l (places j l) (sym (ap is_earlier (stands-append f (j ∷ []) (l ∷ []) ∙ beside j l)) ∙ h)

pub before_beside : (f : List ℕ) (j l : ℕ) → j < l → stands (f ++ j ∷ []) (f ++ l ∷ []) ≡ before
before_beside f j l h = stands-append f (j ∷ []) (l ∷ []) ∙ beside j l ∙ ap (λ o. then_stands o same) (cmp_less j l h)

behind_next : (f q u new : List ℕ) (j l : ℕ) → q ≡ f ++ j ∷ [] → u ≡ f ++ l ∷ [] → new ≡ f ++ (j + 1) ∷ [] → is_earlier (stands q u) ≡ true → is_earlier (stands u new) ≡ false
behind_next f q u new j l eq eu en h =
    let g : is_earlier (stands (f ++ j ∷ []) (f ++ l ∷ [])) ≡ true = sym (ap (λ z. is_earlier (stands z u)) eq ∙ ap (λ z. is_earlier (stands (f ++ j ∷ []) z)) eu) ∙ h in
    let s = smaller f j l g in
    let b : is_before_all (stands (f ++ j ∷ []) u) ≡ true = ap (λ z. is_before_all (stands (f ++ j ∷ []) z)) eu ∙ ap is_before_all (before_beside f j l s) in
    ap (λ z. is_earlier (stands u z)) en ∙ next_child f u j b

not_behind : (t : Tree) (f q u : List ℕ) (j l : ℕ) → q ≡ f ++ j ∷ [] → u ≡ f ++ l ∷ [] → has_path t u ≡ true → count_at t f ≤ j + 1 → is_earlier (stands q u) ≡ false
not_behind t f q u j l eq eu h n = false_from_ne_true (is_earlier (stands q u)) (λ e.
    let g : is_earlier (stands (f ++ j ∷ []) (f ++ l ∷ [])) ≡ true = sym (ap (λ z. is_earlier (stands z u)) eq ∙ ap (λ z. is_earlier (stands (f ++ j ∷ []) z)) eu) ∙ e in
    let s = smaller f j l g in
    let w = kid_within t f l [] (subst (λ z. has_path t z ≡ true) eu h) in omega arith)

step_passes : (f q new : List ℕ) (j : ℕ) → q ≡ f ++ j ∷ [] → new ≡ f ++ (j + 1) ∷ [] → is_earlier (stands q new) ≡ true
step_passes f q new j eq en = ap (λ z. is_earlier (stands z new)) eq ∙ ap (λ z. is_earlier (stands (f ++ j ∷ []) z)) en ∙ ap is_earlier (next_stands f j)

pub child_next : (t : Tree) (p q new : List ℕ) → on_axis Child (p, None) (q, None) ≡ true → Right t q new → Lands Child t (p, None) (is_further Child (q, None)) (new, None)
child_next t p q new o r =
    let y = child_parts p q (sym (child_axis p q) ∙ o) in
    let e = r.to p y.0 y.1 in
    lands_from Child t (p, None) (is_further Child (q, None)) new r.exists (child_axis p new ∙ ap (λ z. is_child (p, None) (z, None)) e ∙ child_on p (y.0 + 1))
    (child_further q new ∙ step_passes p q new y.0 y.1 e) (λ u k. no_attribute_child p u k)
    (λ u h o' g.
    let x = child_parts p u (sym (child_axis p u) ∙ o') in
    child_further u new ∙ behind_next p q u new y.0 x.0 y.1 x.1 e (sym (child_further q u) ∙ g))

pub child_end : (t : Tree) (p q : List ℕ) → on_axis Child (p, None) (q, None) ≡ true → NoRight t q → Ends Child t (p, None) (is_further Child (q, None))
child_end t p q o r =
    let y = child_parts p q (sym (child_axis p q) ∙ o) in
    ends_from Child t (p, None) (is_further Child (q, None)) (λ u k. no_attribute_child p u k)
    (λ u h o'.
    let x = child_parts p u (sym (child_axis p u) ∙ o') in
    child_further q u ∙ not_behind t p q u y.0 x.0 y.1 x.1 h (r p y.0 y.1))

-- ---- siblings
-- the second is the first, or a later child of the same node
pub record Near (p q : List ℕ) : Type 0 where
  pub front : List ℕ
  pub left : ℕ
  pub right : ℕ
  pub left_is : p ≡ front ++ left ∷ []
  pub right_is : q ≡ front ++ right ∷ []
  pub order : left ≤ right

near_siblings : (p q : List ℕ) → Siblings p q → Near p q
near_siblings p q s = record { front = s.front; left = s.left; right = s.right; left_is = s.left_is; right_is = s.right_is; order = omega (arith, s.order) }

near_itself : (p : List ℕ) → (front : List ℕ) × (i : ℕ) × (p ≡ front ++ i ∷ []) → Near p p
near_itself p x = record { front = x.0; left = x.1; right = x.1; left_is = x.2; right_is = x.2; order = omega arith }

no_attribute_sibling : (p u : List ℕ) (k : ℕ) → on_axis FollowingSibling (p, None) (u, Some k) ≡ false
unfolding on_axis is_following_sibling is_attribute
no_attribute_sibling p u k = refl

sibling_axis : (p u : List ℕ) → on_axis FollowingSibling (p, None) (u, None) ≡ is_later_sibling p u
unfolding on_axis is_following_sibling is_attribute
sibling_axis p u = refl

sibling_further : (u v : List ℕ) → is_further FollowingSibling (u, None) (v, None) ≡ is_earlier (stands u v)
unfolding is_further is_reverse
sibling_further u v = plain_before u v

-- the place of a later sibling under the same parent
pub same_front : (p u f : List ℕ) (i : ℕ) → p ≡ f ++ i ∷ [] → Siblings p u → (l : ℕ) × (u ≡ f ++ l ∷ []) × (i < l)
same_front p u f i e s =
    let x = push_inj f s.front i s.left (sym e ∙ s.left_is) in
    let r : u ≡ f ++ s.right ∷ [] = s.right_is ∙ ap (λ z. z ++ s.right ∷ []) (sym x.0) in
    (s.right, r, omega (arith, s.order, x.1))

sibling_step : (t : Tree) (p q new : List ℕ) → Near p q → Right t q new → Lands FollowingSibling t (p, None) (is_further FollowingSibling (q, None)) (new, None)
sibling_step t p q new y r =
    let e = r.to y.front y.right y.right_is in
    let on : is_later_sibling p new ≡ true = ap (λ z. is_later_sibling z new) y.left_is ∙ ap (λ z. is_later_sibling (y.front ++ y.left ∷ []) z) e ∙ siblings_on y.front y.left (y.right + 1) (omega (arith, y.order)) in
    lands_from FollowingSibling t (p, None) (is_further FollowingSibling (q, None)) new r.exists (sibling_axis p new ∙ on)
    (sibling_further q new ∙ step_passes y.front q new y.right y.right_is e) (λ u k. no_attribute_sibling p u k)
    (λ u h o g.
    let x = same_front p u y.front y.left y.left_is (siblings_parts p u (sym (sibling_axis p u) ∙ o)) in
    sibling_further u new ∙ behind_next y.front q u new y.right x.0 y.right_is x.1 e (sym (sibling_further q u) ∙ g))

sibling_stop : (t : Tree) (p q : List ℕ) → Near p q → NoRight t q → Ends FollowingSibling t (p, None) (is_further FollowingSibling (q, None))
sibling_stop t p q y r =
    ends_from FollowingSibling t (p, None) (is_further FollowingSibling (q, None)) (λ u k. no_attribute_sibling p u k)
    (λ u h o.
    let x = same_front p u y.front y.left y.left_is (siblings_parts p u (sym (sibling_axis p u) ∙ o)) in
    sibling_further q u ∙ not_behind t y.front q u y.right x.0 y.right_is x.1 h (r y.front y.right y.right_is))

pub sibling_next : (t : Tree) (p q new : List ℕ) → on_axis FollowingSibling (p, None) (q, None) ≡ true → Right t q new
    → Lands FollowingSibling t (p, None) (is_further FollowingSibling (q, None)) (new, None)
sibling_next t p q new o r = sibling_step t p q new (near_siblings p q (siblings_parts p q (sym (sibling_axis p q) ∙ o))) r

pub sibling_end : (t : Tree) (p q : List ℕ) → on_axis FollowingSibling (p, None) (q, None) ≡ true → NoRight t q → Ends FollowingSibling t (p, None) (is_further FollowingSibling (q, None))
sibling_end t p q o r = sibling_stop t p q (near_siblings p q (siblings_parts p q (sym (sibling_axis p q) ∙ o))) r

pub siblings_later : (p u : List ℕ) → Siblings p u → is_earlier (stands p u) ≡ true
siblings_later p u s =
    ap (λ z. is_earlier (stands z u)) s.left_is ∙ ap (λ z. is_earlier (stands (s.front ++ s.left ∷ []) z)) s.right_is ∙ ap is_earlier (before_beside s.front s.left s.right s.order)

pub spot_first : (t : Tree) (n : Spot) (b : Spot → Bool) (axis : Axis) (new : Spot) (u : List ℕ) → Lands axis t n b new → has_path t u ≡ true → on_axis axis n (u, None) ≡ true → b (u, None) ≡ true → is_further axis (u, None) new ≡ false
unfolding has_path has_spot
spot_first t n b axis new u s h o g = s.first (u, None) h o g

pub sibling_first : (t : Tree) (p new : List ℕ) → Right t p new → Lands FollowingSibling t (p, None) every (new, None)
sibling_first t p new r =
    let s = sibling_step t p p new (near_itself p r.from) r in
    lands_from FollowingSibling t (p, None) every new r.exists s.on refl (λ u k. no_attribute_sibling p u k)
    (λ u h o g.
    let x = siblings_parts p u (sym (sibling_axis p u) ∙ o) in
    spot_first t (p, None) (is_further FollowingSibling (p, None)) FollowingSibling (new, None) u s h o (sibling_further p u ∙ siblings_later p u x))

pub sibling_none : (t : Tree) (p : List ℕ) → NoRight t p → Ends FollowingSibling t (p, None) every
sibling_none t p r =
    ends_from FollowingSibling t (p, None) every (λ u k. no_attribute_sibling p u k)
    (λ u h o.
    let x = siblings_parts p u (sym (sibling_axis p u) ∙ o) in
    let e = not_behind t x.front p u x.left x.right x.left_is x.right_is h (r x.front x.left x.left_is) in
    never (sym e ∙ siblings_later p u x))
