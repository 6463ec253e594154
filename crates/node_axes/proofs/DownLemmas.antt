-- Where a step along an axis lands: earlier siblings, descendants, and what follows.
use Rattle.std.proofs.Common.{◌≡◌, ℕ, ◌<◌, ◌≤◌, List, [], ◌∷◌, ◌++◌, length, take, Bool, true, false, ◌&&◌, ◌||◌, not, Option, Some, None, refl, sym, ap, ◌∙◌, arith}
use Rattle.std.proofs.lemmas.Bool.{false_from_ne_true}
use Rattle.std.specs.Ordering.{nat_cmp}
use Rattle.xt_tree.specs.declared.trees.Tree.{Tree}
use Rattle.xt_tree.specs.Walk.{Spot}
use Rattle.xt_types.specs.declared.axes.Axis.TheVariants.{Descendant, DescendantOrSelf, Following, PrecedingSibling, Preceding}
use Rattle.node_axes.specs.Axes.{same_path, same_attribute, is_later_sibling, is_before, is_reverse, is_attribute, is_descendant, is_itself, is_preceding_sibling, is_following, is_preceding, on_axis}
use Rattle.node_axes.specs.Course.{is_further}
use Rattle.node_axes.specs.Paths.{Stands, before, above, same, below, after, then_stands, stands, is_before_all, is_earlier, is_not_later, is_over, has_path}
use Rattle.node_axes.specs.Moves.{count_at, Down, Left, NoLeft, Skips, AllBehind, Backs, NoneBack, Lands, Ends, every}
use Rattle.node_axes.proofs.PathLemmas.{cmp_equal, above_is, same_is, first_child, leaf}
use Rattle.node_axes.proofs.MoveLemmas.{push_inj}
use Rattle.node_axes.proofs.LoopLemmas.{before_is_earlier, earlier_is_not_later, stands-longer}
use Rattle.node_axes.proofs.AxisLemmas.{is_up, is_one, same_path_is, descendant_is, following_is, attribute_following_is, preceding_is, attribute_preceding_is, Siblings, siblings_parts, siblings_on}
use Rattle.node_axes.proofs.LandLemmas.{plain_before, before_trans, earlier_trans, lands_from, ends_from, smaller, before_beside, spot_first}
use Rattle.std.proofs.Math.Seq.{take-append_seam}
use Rattle.xt_names.proofs.BoolLemmas.{never}

-- ---- earlier siblings
no_attribute_left : (p u : List ℕ) (k : ℕ) → on_axis PrecedingSibling (p, None) (u, Some k) ≡ false
unfolding on_axis is_preceding_sibling is_attribute
no_attribute_left p u k = refl

left_axis : (p u : List ℕ) → on_axis PrecedingSibling (p, None) (u, None) ≡ is_later_sibling u p
unfolding on_axis is_preceding_sibling is_attribute
left_axis p u = refl

left_further : (u v : List ℕ) → is_further PrecedingSibling (u, None) (v, None) ≡ is_earlier (stands v u)
unfolding is_further is_reverse
left_further u v = plain_before v u

-- the second is the first, or an earlier child of the same node
pub record Behind (p q : List ℕ) : Type 0 where
  pub front : List ℕ
  pub right : ℕ
  pub left : ℕ
  pub right_is : p ≡ front ++ right ∷ []
  pub left_is : q ≡ front ++ left ∷ []
  pub order : left ≤ right

behind_siblings : (p q : List ℕ) → Siblings q p → Behind p q
behind_siblings p q s = record { front = s.front; right = s.right; left = s.left; right_is = s.right_is; left_is = s.left_is; order = omega (arith, s.order) }

behind_itself : (p : List ℕ) → (front : List ℕ) × (i : ℕ) × (p ≡ front ++ i ∷ []) → Behind p p
behind_itself p x = record { front = x.0; right = x.1; left = x.1; right_is = x.2; left_is = x.2; order = omega arith }

same_back : (p u f : List ℕ) (i : ℕ) → p ≡ f ++ i ∷ [] → Siblings u p → (l : ℕ) × (u ≡ f ++ l ∷ []) × (l < i)
same_back p u f i e s =
    let x = push_inj f s.front i s.right (sym e ∙ s.right_is) in
    let r : u ≡ f ++ s.left ∷ [] = s.left_is ∙ ap (λ z. z ++ s.left ∷ []) (sym x.0) in
    (s.left, r, omega (arith, s.order, x.1))

pair_stands : (f u v : List ℕ) (i j : ℕ) → u ≡ f ++ i ∷ [] → v ≡ f ++ j ∷ [] → is_earlier (stands u v) ≡ is_earlier (stands (f ++ i ∷ []) (f ++ j ∷ []))
pair_stands f u v i j eu ev = ap (λ z. is_earlier (stands z v)) eu ∙ ap (λ z. is_earlier (stands (f ++ i ∷ []) z)) ev

pair_smaller : (f u v : List ℕ) (i j : ℕ) → u ≡ f ++ i ∷ [] → v ≡ f ++ j ∷ [] → is_earlier (stands u v) ≡ true → i < j
pair_smaller f u v i j eu ev h = smaller f i j (sym (pair_stands f u v i j eu ev) ∙ h)

pair_earlier : (f u v : List ℕ) (i j : ℕ) → u ≡ f ++ i ∷ [] → v ≡ f ++ j ∷ [] → i < j → is_earlier (stands u v) ≡ true
pair_earlier f u v i j eu ev h = pair_stands f u v i j eu ev ∙ ap is_earlier (before_beside f i j h)

pair_not : (f u v : List ℕ) (i j : ℕ) → u ≡ f ++ i ∷ [] → v ≡ f ++ j ∷ [] → j ≤ i → is_earlier (stands u v) ≡ false
pair_not f u v i j eu ev l = false_from_ne_true (is_earlier (stands u v)) (λ h. let s = pair_smaller f u v i j eu ev h in omega arith)

left_step : (t : Tree) (p q new : List ℕ) → Behind p q → Left t q new → Lands PrecedingSibling t (p, None) (is_further PrecedingSibling (q, None)) (new, None)
left_step t p q new y r =
    let e = r.to y.front y.left y.left_is in
    let on : is_later_sibling new p ≡ true = ap (λ z. is_later_sibling z p) e.2 ∙ ap (λ z. is_later_sibling (y.front ++ e.0 ∷ []) z) y.right_is ∙ siblings_on y.front e.0 y.right (omega (arith, y.order, e.1)) in
    lands_from PrecedingSibling t (p, None) (is_further PrecedingSibling (q, None)) new r.exists (left_axis p new ∙ on)
    (left_further q new ∙ pair_earlier y.front new q e.0 y.left e.2 y.left_is (omega (arith, e.1))) (λ u k. no_attribute_left p u k)
    (λ u h o g.
    let x = same_back p u y.front y.right y.right_is (siblings_parts u p (sym (left_axis p u) ∙ o)) in
    let s = pair_smaller y.front u q x.0 y.left x.1 y.left_is (sym (left_further q u) ∙ g) in
    left_further u new ∙ pair_not y.front new u e.0 x.0 e.2 x.1 (omega (arith, e.1)))

pub left_next : (t : Tree) (p q new : List ℕ) → on_axis PrecedingSibling (p, None) (q, None) ≡ true → Left t q new
    → Lands PrecedingSibling t (p, None) (is_further PrecedingSibling (q, None)) (new, None)
left_next t p q new o r = left_step t p q new (behind_siblings p q (siblings_parts q p (sym (left_axis p q) ∙ o))) r

pub left_end : (t : Tree) (p q : List ℕ) → on_axis PrecedingSibling (p, None) (q, None) ≡ true → NoLeft q → Ends PrecedingSibling t (p, None) (is_further PrecedingSibling (q, None))
left_end t p q o' r =
    let y = behind_siblings p q (siblings_parts q p (sym (left_axis p q) ∙ o')) in
    let z = r y.front y.left y.left_is in
    ends_from PrecedingSibling t (p, None) (is_further PrecedingSibling (q, None)) (λ u k. no_attribute_left p u k)
    (λ u h o.
    let x = same_back p u y.front y.right y.right_is (siblings_parts u p (sym (left_axis p u) ∙ o)) in
    left_further q u ∙ pair_not y.front u q x.0 y.left x.1 y.left_is (omega (arith, z)))

pub left_first : (t : Tree) (p new : List ℕ) → Left t p new → Lands PrecedingSibling t (p, None) every (new, None)
unfolding behind_itself
left_first t p new r =
    let y = behind_itself p r.from in
    let s = left_step t p p new y r in
    lands_from PrecedingSibling t (p, None) every new r.exists s.on refl (λ u k. no_attribute_left p u k)
    (λ u h o g.
    let x = same_back p u y.front y.right y.right_is (siblings_parts u p (sym (left_axis p u) ∙ o)) in
    spot_first t (p, None) (is_further PrecedingSibling (p, None)) PrecedingSibling (new, None) u s h o
    (left_further p u ∙ pair_earlier y.front u p x.0 y.left x.1 y.left_is x.2))

pub left_none : (t : Tree) (p : List ℕ) → NoLeft p → Ends PrecedingSibling t (p, None) every
left_none t p r =
    ends_from PrecedingSibling t (p, None) every (λ u k. no_attribute_left p u k)
    (λ u h o.
    let x = siblings_parts u p (sym (left_axis p u) ∙ o) in
    let z = r x.front x.right x.right_is in absurd (omega (arith, x.order, z)))

-- ---- descendants
no_attribute_below : (p u : List ℕ) (k : ℕ) → on_axis Descendant (p, None) (u, Some k) ≡ false
unfolding on_axis is_descendant is_attribute
no_attribute_below p u k = refl

pub below_axis : (p u : List ℕ) → on_axis Descendant (p, None) (u, None) ≡ is_up (stands p u)
unfolding on_axis
below_axis p u = descendant_is p u

below_further : (u v : List ℕ) → is_further Descendant (u, None) (v, None) ≡ is_earlier (stands u v)
unfolding is_further is_reverse
below_further u v = plain_before u v

pub up_is_earlier : (s : Stands) → is_up s ≡ true → is_earlier s ≡ true
up_is_earlier before h = never h
up_is_earlier above h = refl
up_is_earlier same h = never h
up_is_earlier below h = never h
up_is_earlier after h = never h

up_not_before : {A : Type 0} (s : Stands) → is_up s ≡ true → is_before_all s ≡ true → A
up_not_before before h g = never h
up_not_before above h g = never g
up_not_before same h g = never h
up_not_before below h g = never h
up_not_before after h g = never h

pub below_first : (t : Tree) (p new : List ℕ) → Down t p new → Lands Descendant t (p, None) every (new, None)
below_first t p new d =
    lands_from Descendant t (p, None) every new d.exists (below_axis p new ∙ ap (λ z. is_up (stands p z)) d.to ∙ ap is_up (stands-longer p 0 [])) refl (λ u k. no_attribute_below p u k)
    (λ u h o g.
    let e = up_is_earlier (stands p u) (sym (below_axis p u) ∙ o) in
    below_further u new ∙ ap (λ z. is_earlier (stands u z)) d.to ∙ first_child p u e)

pub below_none : (t : Tree) (p : List ℕ) → count_at t p ≡ 0 → Ends Descendant t (p, None) every
below_none t p n =
    ends_from Descendant t (p, None) every (λ u k. no_attribute_below p u k)
    (λ u h o.
    let e = sym (below_axis p u) ∙ o in
    up_not_before (stands p u) e (sym (leaf t p u n h) ∙ up_is_earlier (stands p u) e))

take_more : (p x : List ℕ) → take (length p) x ≡ p → length p < length x → stands p x ≡ above
unfolding stands
take_more [] [] e l = absurd (omega arith)
take_more [] (j ∷ x) e l = refl
take_more (i ∷ p) [] e l = absurd (omega arith)
take_more (i ∷ p) (j ∷ x) e l =
    let h : j ≡ i = cc in
    let g : take (length p) x ≡ p = cc in
    ap (λ z. then_stands (nat_cmp i z) (stands p x)) h ∙ ap (λ o. then_stands o (stands p x)) (cmp_equal i) ∙ take_more p x g (omega arith)

take_itself : (p : List ℕ) → take (length p) p ≡ p
take_itself [] = refl
take_itself (i ∷ p) = ap (λ (z : List ℕ). i ∷ z) (take_itself p)

take_over : (p q : List ℕ) (s : Stands) → s ≡ stands p q → is_over s ≡ true → take (length p) q ≡ p
take_over p q before e h = never h
take_over p q above e h = let x = above_is p q (sym e) in ap (take (length p)) x.2 ∙ take-append_seam p (x.0 ∷ x.1)
take_over p q same e h = ap (take (length p)) (sym (same_is p q (sym e))) ∙ take_itself p
take_over p q below e h = never h
take_over p q after e h = never h

pub up_is_over : (s : Stands) → is_up s ≡ true → is_over s ≡ true
up_is_over before h = never h
up_is_over above h = refl
up_is_over same h = never h
up_is_over below h = never h
up_is_over after h = never h

-- what is skipped to is still below
still_below : (t : Tree) (p q new : List ℕ) → is_over (stands p q) ≡ true → Skips is_earlier t (length p) q new → stands p new ≡ above
still_below t p q new o s = take_more p new (s.within ∙ take_over p q (stands p q) refl o) s.longer

pub below_next : (t : Tree) (p q new : List ℕ) → on_axis Descendant (p, None) (q, None) ≡ true → Skips is_earlier t (length p) q new
    → Lands Descendant t (p, None) (is_further Descendant (q, None)) (new, None)
below_next t p q new o s =
    let a = up_is_over (stands p q) (sym (below_axis p q) ∙ o) in
    lands_from Descendant t (p, None) (is_further Descendant (q, None)) new s.exists (below_axis p new ∙ ap is_up (still_below t p q new a s)) (below_further q new ∙ s.passes)
    (λ u k. no_attribute_below p u k)
    (λ u h o' g. below_further u new ∙ s.first u h (sym (below_further q u) ∙ g))

behind_start : (t : Tree) (p q u : List ℕ) → is_over (stands p q) ≡ true → AllBehind is_earlier t (length p) q → has_path t u ≡ true → is_earlier (stands q u) ≡ true → is_before_all (stands p u) ≡ true
behind_start t p q u o s h g = sym (ap (λ z. is_before_all (stands z u)) (take_over p q (stands p q) refl o)) ∙ s u h g

pub below_end : (t : Tree) (p q : List ℕ) → on_axis Descendant (p, None) (q, None) ≡ true → AllBehind is_earlier t (length p) q → Ends Descendant t (p, None) (is_further Descendant (q, None))
below_end t p q o s =
    let a = up_is_over (stands p q) (sym (below_axis p q) ∙ o) in
    ends_from Descendant t (p, None) (is_further Descendant (q, None)) (λ u k. no_attribute_below p u k)
    (λ u h o'. below_further q u ∙ false_from_ne_true (is_earlier (stands q u)) (λ g.
    up_not_before (stands p u) (sym (below_axis p u) ∙ o') (behind_start t p q u a s h g)))

-- ---- descendants, and the node itself
and_none : (x : Bool) → ((x && false) || false) ≡ false
and_none true = refl
and_none false = refl

no_attribute_with : (p u : List ℕ) (k : ℕ) → on_axis DescendantOrSelf (p, None) (u, Some k) ≡ false
unfolding on_axis is_itself is_descendant is_attribute same_attribute
no_attribute_with p u k = and_none (same_path p u)

with_cases : (s : Stands) → ((is_one s && true) || is_up s) ≡ is_over s
with_cases before = refl
with_cases above = refl
with_cases same = refl
with_cases below = refl
with_cases after = refl

pub with_axis : (p u : List ℕ) → on_axis DescendantOrSelf (p, None) (u, None) ≡ is_over (stands p u)
unfolding on_axis is_itself same_attribute
with_axis p u = ap (λ b. (b && true) || is_descendant (p, None) (u, None)) (same_path_is p u) ∙ ap (λ b. (is_one (stands p u) && true) || b) (descendant_is p u) ∙ with_cases (stands p u)

with_further : (u v : List ℕ) → is_further DescendantOrSelf (u, None) (v, None) ≡ is_earlier (stands u v)
unfolding is_further is_reverse
with_further u v = plain_before u v

over_not_before : {A : Type 0} (s : Stands) → is_over s ≡ true → is_before_all s ≡ true → A
over_not_before before h g = never h
over_not_before above h g = never g
over_not_before same h g = never g
over_not_before below h g = never h
over_not_before after h g = never h

pub with_next : (t : Tree) (p q new : List ℕ) → on_axis DescendantOrSelf (p, None) (q, None) ≡ true → Skips is_earlier t (length p) q new
    → Lands DescendantOrSelf t (p, None) (is_further DescendantOrSelf (q, None)) (new, None)
with_next t p q new o s =
    let a = sym (with_axis p q) ∙ o in
    lands_from DescendantOrSelf t (p, None) (is_further DescendantOrSelf (q, None)) new s.exists (with_axis p new ∙ ap is_over (still_below t p q new a s)) (with_further q new ∙ s.passes)
    (λ u k. no_attribute_with p u k)
    (λ u h o' g. with_further u new ∙ s.first u h (sym (with_further q u) ∙ g))

pub with_end : (t : Tree) (p q : List ℕ) → on_axis DescendantOrSelf (p, None) (q, None) ≡ true → AllBehind is_earlier t (length p) q
    → Ends DescendantOrSelf t (p, None) (is_further DescendantOrSelf (q, None))
with_end t p q o s =
    let a = sym (with_axis p q) ∙ o in
    ends_from DescendantOrSelf t (p, None) (is_further DescendantOrSelf (q, None)) (λ u k. no_attribute_with p u k)
    (λ u h o'. with_further q u ∙ false_from_ne_true (is_earlier (stands q u)) (λ g.
    over_not_before (stands p u) (sym (with_axis p u) ∙ o') (behind_start t p q u a s h g)))

-- ---- what follows
mid_false : (x y : Bool) → (x && false && y) ≡ false
mid_false true y = refl
mid_false false y = refl

pub no_attribute_follows : (n : Spot) (u : List ℕ) (k : ℕ) → on_axis Following n (u, Some k) ≡ false
unfolding on_axis is_following is_attribute
no_attribute_follows n u k = mid_false (is_before n (u, Some k)) (not (is_descendant n (u, Some k)))

follows_axis : (p u : List ℕ) → on_axis Following (p, None) (u, None) ≡ is_before_all (stands p u)
unfolding on_axis
follows_axis p u = following_is p u

attribute_follows_axis : (p u : List ℕ) (k : ℕ) → on_axis Following (p, Some k) (u, None) ≡ is_earlier (stands p u)
unfolding on_axis
attribute_follows_axis p u k = attribute_following_is p u k

follows_further : (u v : List ℕ) → is_further Following (u, None) (v, None) ≡ is_earlier (stands u v)
unfolding is_further is_reverse
follows_further u v = plain_before u v

pub follows_first : (t : Tree) (p new : List ℕ) → Skips is_before_all t 0 p new → Lands Following t (p, None) every (new, None)
follows_first t p new s =
    lands_from Following t (p, None) every new s.exists (follows_axis p new ∙ s.passes) refl (λ u k. no_attribute_follows (p, None) u k)
    (λ u h o g. follows_further u new ∙ s.first u h (sym (follows_axis p u) ∙ o))

root_not_before : (u : List ℕ) → is_before_all (stands [] u) ≡ false
unfolding stands
root_not_before [] = refl
root_not_before (i ∷ u) = refl

pub follows_none : (t : Tree) (p : List ℕ) → AllBehind is_before_all t 0 p → Ends Following t (p, None) every
follows_none t p s =
    ends_from Following t (p, None) every (λ u k. no_attribute_follows (p, None) u k)
    (λ u h o. never (sym (root_not_before u) ∙ s u h (sym (follows_axis p u) ∙ o)))

pub attribute_follows_first : (t : Tree) (p new : List ℕ) (k : ℕ) → Skips is_earlier t 0 p new → Lands Following t (p, Some k) every (new, None)
attribute_follows_first t p new k s =
    lands_from Following t (p, Some k) every new s.exists (attribute_follows_axis p new k ∙ s.passes) refl (λ u l. no_attribute_follows (p, Some k) u l)
    (λ u h o g. follows_further u new ∙ s.first u h (sym (attribute_follows_axis p u k) ∙ o))

pub attribute_follows_none : (t : Tree) (p : List ℕ) (k : ℕ) → AllBehind is_earlier t 0 p → Ends Following t (p, Some k) every
attribute_follows_none t p k s =
    ends_from Following t (p, Some k) every (λ u l. no_attribute_follows (p, Some k) u l)
    (λ u h o. never (sym (root_not_before u) ∙ s u h (sym (attribute_follows_axis p u k) ∙ o)))

follows_on : (p q new : List ℕ) (a : Option ℕ) → on_axis Following (p, a) (q, None) ≡ true → is_earlier (stands q new) ≡ true → on_axis Following (p, a) (new, None) ≡ true
follows_on p q new None o g = follows_axis p new ∙ before_trans p q new (sym (follows_axis p q) ∙ o) g
follows_on p q new (Some k) o g = attribute_follows_axis p new k ∙ earlier_trans p q new (sym (attribute_follows_axis p q k) ∙ o) g

pub follows_next : (t : Tree) (n : Spot) (q new : List ℕ) → on_axis Following n (q, None) ≡ true → Skips is_earlier t 0 q new → Lands Following t n (is_further Following (q, None)) (new, None)
follows_next t (p, a) q new o s =
    lands_from Following t (p, a) (is_further Following (q, None)) new s.exists (follows_on p q new a o s.passes) (follows_further q new ∙ s.passes) (λ u l. no_attribute_follows (p, a) u l)
    (λ u h o' g. follows_further u new ∙ s.first u h (sym (follows_further q u) ∙ g))

pub follows_end : (t : Tree) (n : Spot) (q : List ℕ) → AllBehind is_earlier t 0 q → Ends Following t n (is_further Following (q, None))
follows_end t n q s =
    ends_from Following t n (is_further Following (q, None)) (λ u l. no_attribute_follows n u l)
    (λ u h o. follows_further q u ∙ false_from_ne_true (is_earlier (stands q u)) (λ g. never (sym (root_not_before u) ∙ s u h g)))

-- ---- what precedes
pub no_attribute_precedes : (n : Spot) (u : List ℕ) (k : ℕ) → on_axis Preceding n (u, Some k) ≡ false
unfolding on_axis is_preceding is_attribute
no_attribute_precedes n u k = mid_false (is_before (u, Some k) n) _

precedes_axis : (p u : List ℕ) (a : Option ℕ) → on_axis Preceding (p, a) (u, None) ≡ is_before_all (stands u p)
unfolding on_axis
precedes_axis p u None = preceding_is p u
precedes_axis p u (Some k) = attribute_preceding_is p u k

precedes_further : (u v : List ℕ) → is_further Preceding (u, None) (v, None) ≡ is_earlier (stands v u)
unfolding is_further is_reverse
precedes_further u v = plain_before v u

pub precedes_first : (t : Tree) (p new : List ℕ) (a : Option ℕ) → Backs t p p new → Lands Preceding t (p, a) every (new, None)
precedes_first t p new a s =
    lands_from Preceding t (p, a) every new s.exists (precedes_axis p new a ∙ s.clear) refl (λ u l. no_attribute_precedes (p, a) u l)
    (λ u h o g.
    let c = sym (precedes_axis p u a) ∙ o in
    precedes_further u new ∙ s.last u h c (before_is_earlier (stands u p) c))

pub precedes_none : (t : Tree) (p : List ℕ) (a : Option ℕ) → NoneBack t p p → Ends Preceding t (p, a) every
precedes_none t p a s =
    ends_from Preceding t (p, a) every (λ u l. no_attribute_precedes (p, a) u l)
    (λ u h o.
    let c = sym (precedes_axis p u a) ∙ o in
    never (sym (s u h c) ∙ before_is_earlier (stands u p) c))

pub precedes_next : (t : Tree) (p q new : List ℕ) (a : Option ℕ) → Backs t p q new → Lands Preceding t (p, a) (is_further Preceding (q, None)) (new, None)
precedes_next t p q new a s =
    lands_from Preceding t (p, a) (is_further Preceding (q, None)) new s.exists (precedes_axis p new a ∙ s.clear) (precedes_further q new ∙ s.passes) (λ u l. no_attribute_precedes (p, a) u l)
    (λ u h o g. precedes_further u new ∙ s.last u h (sym (precedes_axis p u a) ∙ o) (sym (precedes_further q u) ∙ g))

pub precedes_end : (t : Tree) (p q : List ℕ) (a : Option ℕ) → NoneBack t p q → Ends Preceding t (p, a) (is_further Preceding (q, None))
precedes_end t p q a s =
    ends_from Preceding t (p, a) (is_further Preceding (q, None)) (λ u l. no_attribute_precedes (p, a) u l)
    (λ u h o. precedes_further q u ∙ s u h (sym (precedes_axis p u a) ∙ o))

pub precedes_clear : (p q : List ℕ) (a : Option ℕ) → on_axis Preceding (p, a) (q, None) ≡ true → is_not_later (stands q p) ≡ true
precedes_clear p q a o = earlier_is_not_later (stands q p) (before_is_earlier (stands q p) (sym (precedes_axis p q a) ∙ o))
