-- How paths stand to each other, and what a tree has below a path.
use Rattle.std.proofs.Common.{◌≡◌, ℕ, zero, suc, ◌+◌, ◌<◌, ◌≤◌, List, [], ◌∷◌, ◌++◌, length, drop, true, false, Option, Some, None, option_and_then, slice_get, ◌⊎◌, inl, inr, refl, sym, ap, subst, ◌∙◌, arith}
use Rattle.std.proofs.lemmas.Bool.{cases_order}
use Rattle.std.specs.declared.cmp.Ordering.{Ordering}
use Rattle.std.specs.declared.cmp.Ordering.TheVariants.{Less, Equal, Greater}
use Rattle.std.specs.Ordering.{nat_cmp}
use Rattle.std.specs.Cmp.{nat_cmp_is}
use Rattle.xt_tree.specs.declared.trees.Tree.{Tree}
use Rattle.xt_tree.specs.Place.{subtree_at, subtree_kids, has_attribute}
use Rattle.xt_tree.specs.TreeView.{kids_of}
use Rattle.xt_tree.proofs.PlaceLemmas.{subtree_at-append}
use Rattle.node_axes.specs.Paths.{Stands, before, above, same, below, after, then_stands, stands, is_before_all, is_earlier, is_not_later, has_path}

pub cmp_less : (i j : ℕ) → i < j → nat_cmp i j ≡ Less
cmp_less i j h = sym (nat_cmp_is i j Less h)

pub cmp_equal : (i : ℕ) → nat_cmp i i ≡ Equal
cmp_equal i = sym (nat_cmp_is i i Equal refl)

pub cmp_greater : (i j : ℕ) → j < i → nat_cmp i j ≡ Greater
cmp_greater i j h = sym (nat_cmp_is i j Greater h)

abbrev pub flip : Stands → Stands
flip before = after
flip above = below
flip same = same
flip below = above
flip after = before

-- the three ways in which two places stand
abbrev pub Places : ℕ → ℕ → Type 0
Places i j = ((i < j) × (nat_cmp i j ≡ Less) × (nat_cmp j i ≡ Greater)) ⊎ (((i ≡ j) × (nat_cmp i j ≡ Equal) × (nat_cmp j i ≡ Equal)) ⊎ ((j < i) × (nat_cmp i j ≡ Greater) × (nat_cmp j i ≡ Less)))

less_places : (i j : ℕ) → i < j → Places i j
less_places i j h = inl (h, cmp_less i j h, cmp_greater j i h)

places_more : (i j : ℕ) → (i ≡ j) ⊎ ((i < j) ⊎ (j < i)) → Places i j
places_more i j (inl e) =
    let f : nat_cmp i j ≡ Equal = sym (nat_cmp_is i j Equal e) in
    let g : nat_cmp j i ≡ Equal = sym (nat_cmp_is j i Equal (sym e)) in inr (inl (e, f, g))
places_more i j (inr (inl h)) = less_places i j h
places_more i j (inr (inr h)) = inr (inr (h, cmp_greater i j h, cmp_less j i h))

pub places : (i j : ℕ) → Places i j
places i j = places_more i j (cases_order i j)

flip_step : (i j : ℕ) (a b : Stands) → b ≡ flip a → Places i j → then_stands (nat_cmp j i) b ≡ flip (then_stands (nat_cmp i j) a)
flip_step i j a b e (inl h) = rw (h.1, h.2) refl
flip_step i j a b e (inr (inl h)) = rw (h.1, h.2) e
flip_step i j a b e (inr (inr h)) = rw (h.1, h.2) refl

pub stands-flip : (p q : List ℕ) → stands q p ≡ flip (stands p q)
unfolding stands
stands-flip [] [] = refl
stands-flip [] (j ∷ q) = refl
stands-flip (i ∷ p) [] = refl
stands-flip (i ∷ p) (j ∷ q) = flip_step i j (stands p q) (stands q p) (stands-flip p q) (places i j)

pub stands-append : (p x y : List ℕ) → stands (p ++ x) (p ++ y) ≡ stands x y
unfolding stands
stands-append [] x y = refl
stands-append (i ∷ p) x y = rw (cmp_equal i) (stands-append p x y)

-- how a longer path stands, by how it begins and by the rest
abbrev pub grown : Stands → Stands → Stands
grown before r = before
grown above r = r
grown same r = below
grown below r = below
grown after r = after

grown_step : (o : Ordering) (a b c : Stands) → a ≡ grown b c → then_stands o a ≡ grown (then_stands o b) c
grown_step Less a b c e = refl
grown_step Equal a b c e = e
grown_step Greater a b c e = refl

pub stands-push : (q m : List ℕ) (i : ℕ) → stands (q ++ i ∷ []) m ≡ grown (stands q m) (stands (i ∷ []) (drop (length q) m))
unfolding stands
stands-push [] [] i = refl
stands-push [] (j ∷ m) i = refl
stands-push (x ∷ q) [] i = refl
stands-push (x ∷ q) (y ∷ m) i = grown_step (nat_cmp x y) (stands (q ++ i ∷ []) m) (stands q m) (stands (i ∷ []) (drop (length q) m)) (stands-push q m i)

-- a node below another goes on by a step from there
abbrev pub Further : List ℕ → List ℕ → Type 0
Further p q = (j : ℕ) × (r : List ℕ) × (q ≡ p ++ j ∷ r)

cons_both : (i j : ℕ) (p q : List ℕ) → i ≡ j → p ≡ q → (i ∷ p) ≡ (j ∷ q)
cons_both i j p q e f = cc

above_step : (i j : ℕ) (p q : List ℕ) → (stands p q ≡ above → Further p q) → then_stands (nat_cmp i j) (stands p q) ≡ above → Places i j → Further (i ∷ p) (j ∷ q)
above_step i j p q f e (inl h) = let g : before ≡ above = rw h.1 at e in cc
above_step i j p q f e (inr (inl h)) =
    let g : stands p q ≡ above = rw h.1 at e in let x = f g in (x.0, x.1, cons_both j i q (p ++ x.0 ∷ x.1) (sym h.0) x.2)
above_step i j p q f e (inr (inr h)) = let g : after ≡ above = rw h.1 at e in cc

pub above_is : (p q : List ℕ) → stands p q ≡ above → Further p q
unfolding stands
above_is [] [] e = cc
above_is [] (j ∷ q) e = (j, q, refl)
above_is (i ∷ p) [] e = cc
above_is (i ∷ p) (j ∷ q) e = above_step i j p q (λ h. above_is p q h) e (places i j)

same_step : (i j : ℕ) (p q : List ℕ) → (stands p q ≡ same → p ≡ q) → then_stands (nat_cmp i j) (stands p q) ≡ same → Places i j → (i ∷ p) ≡ (j ∷ q)
same_step i j p q f e (inl h) = let g : before ≡ same = rw h.1 at e in cc
same_step i j p q f e (inr (inl h)) = let g : stands p q ≡ same = rw h.1 at e in cons_both i j p q h.0 (f g)
same_step i j p q f e (inr (inr h)) = let g : after ≡ same = rw h.1 at e in cc

pub same_is : (p q : List ℕ) → stands p q ≡ same → p ≡ q
unfolding stands
same_is [] [] e = refl
same_is [] (j ∷ q) e = cc
same_is (i ∷ p) [] e = cc
same_is (i ∷ p) (j ∷ q) e = same_step i j p q (λ h. same_is p q h) e (places i j)

-- a step that the tree has is one of its children
got : (ts : List Tree) (j : ℕ) (r : List ℕ) → has_attribute (option_and_then (λ k. subtree_at k r) (slice_get ts j)) None ≡ true → j < length ts
got [] j r h = cc
got (t ∷ ts) zero r h = omega arith
got (t ∷ ts) (suc j) r h = let l = got ts j r h in omega arith

within : (o : Option Tree) (j : ℕ) (r : List ℕ) → has_attribute (option_and_then (λ s. subtree_at s (j ∷ r)) o) None ≡ true → j < length (subtree_kids o)
within None j r h = cc
within (Some s) j r h = got (kids_of s) j r h

pub kid_within : (t : Tree) (q : List ℕ) (j : ℕ) (r : List ℕ) → has_path t (q ++ j ∷ r) ≡ true → j < length (subtree_kids (subtree_at t q))
unfolding has_path
kid_within t q j r h =
    let e = subtree_at-append t q (j ∷ r) in
    let g : has_attribute (option_and_then (λ s. subtree_at s (j ∷ r)) (subtree_at t q)) None ≡ true = rw e at h in
    within (subtree_at t q) j r g

pub drop-append : (p x : List ℕ) → drop (length p) (p ++ x) ≡ x
drop-append [] x = refl
drop-append (i ∷ p) x = drop-append p x

-- nothing is between a last child and what comes after its parent
last_step : (i j : ℕ) (r : List ℕ) → j ≤ i → Places i j → is_before_all (then_stands (nat_cmp i j) (stands [] r)) ≡ false
unfolding stands
last_step i j r l (inl h) = absurd (omega arith)
last_step i j [] l (inr (inl h)) = rw h.1 refl
last_step i j (k ∷ r) l (inr (inl h)) = rw h.1 refl
last_step i j r l (inr (inr h)) = rw h.1 refl

rest_stands : (q m : List ℕ) (i j : ℕ) (r : List ℕ) → m ≡ q ++ j ∷ r → stands (i ∷ []) (drop (length q) m) ≡ then_stands (nat_cmp i j) (stands [] r)
unfolding stands
rest_stands q m i j r e = rw (e, drop-append q (j ∷ r)) refl

last_cases : (t : Tree) (q m : List ℕ) (i : ℕ) (s : Stands) → s ≡ stands q m → length (subtree_kids (subtree_at t q)) ≤ i + 1 → has_path t m ≡ true
    → is_before_all (grown s (stands (i ∷ []) (drop (length q) m))) ≡ is_before_all s
last_cases t q m i before e l h = refl
last_cases t q m i above e l h =
    let x = above_is q m (sym e) in
    let g : has_path t (q ++ x.0 ∷ x.1) ≡ true = subst (λ (z : List ℕ). has_path t z ≡ true) x.2 h in
    let w = kid_within t q x.0 x.1 g in
    let le : x.0 ≤ i = omega arith in
    ap is_before_all (rest_stands q m i x.0 x.1 x.2) ∙ last_step i x.0 x.1 le (places i x.0)
last_cases t q m i same e l h = refl
last_cases t q m i below e l h = refl
last_cases t q m i after e l h = refl

pub last_child : (t : Tree) (q m : List ℕ) (i : ℕ) → length (subtree_kids (subtree_at t q)) ≤ i + 1 → has_path t m ≡ true
    → is_before_all (stands (q ++ i ∷ []) m) ≡ is_before_all (stands q m)
last_child t q m i l h = rw (stands-push q m i) (last_cases t q m i (stands q m) refl l h)

-- the next child comes before all that comes after the child
next_step : (i j : ℕ) (r : List ℕ) → is_before_all (then_stands (nat_cmp i j) (stands [] r)) ≡ true → Places i j → Places (i + 1) j
    → is_earlier (flip (then_stands (nat_cmp (i + 1) j) (stands [] r))) ≡ false
unfolding stands
next_step i j r h a (inl k) = rw k.1 refl
next_step i j [] h a (inr (inl k)) = rw k.1 refl
next_step i j (x ∷ r) h a (inr (inl k)) = rw k.1 refl
next_step i j r h (inl g) (inr (inr k)) = absurd (omega arith)
next_step i j [] h (inr (inl g)) (inr (inr k)) = let x : false ≡ true = rw g.1 at h in cc
next_step i j (y ∷ r) h (inr (inl g)) (inr (inr k)) = let x : false ≡ true = rw g.1 at h in cc
next_step i j r h (inr (inr g)) (inr (inr k)) = let x : false ≡ true = rw g.1 at h in cc

next_cases : (q m : List ℕ) (i : ℕ) (s : Stands) → s ≡ stands q m → is_before_all (grown s (stands (i ∷ []) (drop (length q) m))) ≡ true
    → is_earlier (flip (grown s (stands ((i + 1) ∷ []) (drop (length q) m)))) ≡ false
next_cases q m i before e h = refl
next_cases q m i above e h =
    let x = above_is q m (sym e) in
    let g = sym (ap is_before_all (rest_stands q m i x.0 x.1 x.2)) ∙ h in
    ap (λ (z : Stands). is_earlier (flip z)) (rest_stands q m (i + 1) x.0 x.1 x.2) ∙ next_step i x.0 x.1 g (places i x.0) (places (i + 1) x.0)
next_cases q m i same e h = cc
next_cases q m i below e h = cc
next_cases q m i after e h = cc

pub next_child : (q m : List ℕ) (i : ℕ) → is_before_all (stands (q ++ i ∷ []) m) ≡ true → is_earlier (stands m (q ++ (i + 1) ∷ [])) ≡ false
next_child q m i h =
    let g : is_before_all (grown (stands q m) (stands (i ∷ []) (drop (length q) m))) ≡ true = sym (ap is_before_all (stands-push q m i)) ∙ h in
    ap is_earlier (stands-flip (q ++ (i + 1) ∷ []) m)
    ∙ ap (λ (z : Stands). is_earlier (flip z)) (stands-push q m (i + 1))
    ∙ next_cases q m i (stands q m) refl g

-- the first child comes before all that is later than its parent
first_step : (j : ℕ) (r : List ℕ) → Places 0 j → is_earlier (flip (then_stands (nat_cmp 0 j) (stands [] r))) ≡ false
unfolding stands
first_step j r (inl k) = rw k.1 refl
first_step j [] (inr (inl k)) = rw k.1 refl
first_step j (x ∷ r) (inr (inl k)) = rw k.1 refl
first_step j r (inr (inr k)) = absurd (omega arith)

first_cases : (q m : List ℕ) (s : Stands) → s ≡ stands q m → is_earlier s ≡ true → is_earlier (flip (grown s (stands (0 ∷ []) (drop (length q) m)))) ≡ false
first_cases q m before e h = refl
first_cases q m above e h =
    let x = above_is q m (sym e) in
    ap (λ (z : Stands). is_earlier (flip z)) (rest_stands q m 0 x.0 x.1 x.2) ∙ first_step x.0 x.1 (places 0 x.0)
first_cases q m same e h = cc
first_cases q m below e h = cc
first_cases q m after e h = cc

pub first_child : (q m : List ℕ) → is_earlier (stands q m) ≡ true → is_earlier (stands m (q ++ 0 ∷ [])) ≡ false
first_child q m h =
    ap is_earlier (stands-flip (q ++ 0 ∷ []) m)
    ∙ ap (λ (z : Stands). is_earlier (flip z)) (stands-push q m 0)
    ∙ first_cases q m (stands q m) refl h

-- what is later than a node without children comes after it
leaf_cases : (t : Tree) (q m : List ℕ) (s : Stands) → s ≡ stands q m → length (subtree_kids (subtree_at t q)) ≡ 0 → has_path t m ≡ true → is_earlier s ≡ is_before_all s
leaf_cases t q m before e l h = refl
leaf_cases t q m above e l h =
    let x = above_is q m (sym e) in
    let g : has_path t (q ++ x.0 ∷ x.1) ≡ true = subst (λ (z : List ℕ). has_path t z ≡ true) x.2 h in
    let w = kid_within t q x.0 x.1 g in
    absurd (omega arith)
leaf_cases t q m same e l h = refl
leaf_cases t q m below e l h = refl
leaf_cases t q m after e l h = refl

pub leaf : (t : Tree) (q m : List ℕ) → length (subtree_kids (subtree_at t q)) ≡ 0 → has_path t m ≡ true → is_earlier (stands q m) ≡ is_before_all (stands q m)
leaf t q m l h = leaf_cases t q m (stands q m) refl l h

left_step : (i j : ℕ) (r : List ℕ) → is_not_later (then_stands (nat_cmp (i + 1) j) (stands [] r)) ≡ true → Places (i + 1) j → Places i j
    → is_before_all (then_stands (nat_cmp i j) (stands [] r)) ≡ true
left_step i j r h a (inl k) = rw k.1 refl
left_step i j r h (inl g) (inr (inl k)) = absurd (omega arith)
left_step i j r h (inl g) (inr (inr k)) = absurd (omega arith)
left_step i j r h (inr (inl g)) (inr (inl k)) = absurd (omega arith)
left_step i j r h (inr (inl g)) (inr (inr k)) = absurd (omega arith)
left_step i j r h (inr (inr g)) (inr (inl k)) = let x : false ≡ true = rw g.1 at h in cc
left_step i j r h (inr (inr g)) (inr (inr k)) = let x : false ≡ true = rw g.1 at h in cc

left_cases : (q m : List ℕ) (i : ℕ) (s : Stands) → s ≡ stands q m → is_not_later (grown s (stands ((i + 1) ∷ []) (drop (length q) m))) ≡ true
    → is_before_all (grown s (stands (i ∷ []) (drop (length q) m))) ≡ true
left_cases q m i before e h = refl
left_cases q m i above e h =
    let x = above_is q m (sym e) in
    let g = sym (ap is_not_later (rest_stands q m (i + 1) x.0 x.1 x.2)) ∙ h in
    ap is_before_all (rest_stands q m i x.0 x.1 x.2) ∙ left_step i x.0 x.1 g (places (i + 1) x.0) (places i x.0)
left_cases q m i same e h = cc
left_cases q m i below e h = cc
left_cases q m i after e h = cc

pub child_before : (q m : List ℕ) (i : ℕ) → is_not_later (stands (q ++ (i + 1) ∷ []) m) ≡ true → is_before_all (stands (q ++ i ∷ []) m) ≡ true
child_before q m i h =
    let g : is_not_later (grown (stands q m) (stands ((i + 1) ∷ []) (drop (length q) m))) ≡ true = sym (ap is_not_later (stands-push q m (i + 1))) ∙ h in
    ap is_before_all (stands-push q m i) ∙ left_cases q m i (stands q m) refl g

up_cases : (s r : Stands) → is_not_later (grown s r) ≡ true → is_earlier s ≡ true
up_cases before r h = refl
up_cases above r h = refl
up_cases same r h = cc
up_cases below r h = cc
up_cases after r h = cc

-- a node above is earlier than what its child is not later than
pub parent_before : (q m : List ℕ) (i : ℕ) → is_not_later (stands (q ++ i ∷ []) m) ≡ true → is_earlier (stands q m) ≡ true
parent_before q m i h = up_cases (stands q m) (stands (i ∷ []) (drop (length q) m)) (sym (ap is_not_later (stands-push q m i)) ∙ h)
