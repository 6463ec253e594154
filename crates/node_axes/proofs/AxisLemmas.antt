-- Each axis by how the paths stand.
use Rattle.std.proofs.Common.{◌≡◌, ℕ, suc, ◌+◌, ◌<◌, ◌≤◌, List, [], ◌∷◌, ◌++◌, length, Bool, true, false, ◌&&◌, not, nat_eq, nat_lt, Option, Some, None, inl, inr, refl, sym, ap, ◌∙◌, arith, length-append}
use Rattle.std.proofs.lemmas.Bool.{and_parts, eqb-true, eq-eqb, lt-ltb, le-ltb, ltb-true}
use Rattle.std.specs.declared.cmp.Ordering.{Ordering}
use Rattle.std.specs.declared.cmp.Ordering.TheVariants.{Less, Equal, Greater}
use Rattle.std.specs.Ordering.{nat_cmp, ordering_then}
use Rattle.std.specs.Cmp.Lexicographic.{slice_cmp}
use Rattle.xt_tree.specs.Place.{steps, step_cmp}
use Rattle.node_axes.specs.Axes.{begins_with, same_path, is_later_sibling, is_less, is_before, is_attribute, way_length, is_child, is_descendant, is_parent, is_ancestor, is_following, is_preceding}
use Rattle.node_axes.specs.Paths.{Stands, before, above, same, below, after, then_stands, stands, is_before_all, is_earlier, is_over}
use Rattle.node_axes.proofs.PathLemmas.{Places, places, above_is, same_is}
use Rattle.node_axes.proofs.StartLemmas.{is_equal, eq_cmp, over_step}
use Rattle.node_axes.proofs.LoopLemmas.{stands-same, stands-longer}

abbrev pub is_up : Stands → Bool
is_up before = false
is_up above = true
is_up same = false
is_up below = false
is_up after = false

abbrev pub is_one : Stands → Bool
is_one before = false
is_one above = false
is_one same = true
is_one below = false
is_one after = false

pub begins_is : (p q : List ℕ) → begins_with p q ≡ is_over (stands p q)
unfolding begins_with stands
begins_is [] [] = refl
begins_is [] (j ∷ q) = refl
begins_is (i ∷ p) [] = refl
begins_is (i ∷ p) (j ∷ q) = ap (λ b. b && begins_with p q) (eq_cmp i j) ∙ over_step (nat_cmp i j) (begins_with p q) (stands p q) (begins_is p q)

one_step : (o : Ordering) (b : Bool) (s : Stands) → b ≡ is_one s → (is_equal o && b) ≡ is_one (then_stands o s)
one_step Less b s e = refl
one_step Equal b s e = e
one_step Greater b s e = refl

pub same_path_is : (p q : List ℕ) → same_path p q ≡ is_one (stands p q)
unfolding same_path stands
same_path_is [] [] = refl
same_path_is [] (j ∷ q) = refl
same_path_is (i ∷ p) [] = refl
same_path_is (i ∷ p) (j ∷ q) = ap (λ b. b && same_path p q) (eq_cmp i j) ∙ one_step (nat_cmp i j) (same_path p q) (stands p q) (same_path_is p q)

abbrev pub option_less : Option ℕ → Option ℕ → Bool
option_less None None = false
option_less None (Some y) = true
option_less (Some x) None = false
option_less (Some x) (Some y) = nat_lt x y

abbrev pub earlier_spot : Option ℕ → Option ℕ → Stands → Bool
earlier_spot a b before = true
earlier_spot a b above = true
earlier_spot a b same = option_less a b
earlier_spot a b below = false
earlier_spot a b after = false

less_places : (x y : ℕ) → Places x y → is_less (ordering_then (nat_cmp x y) Equal) ≡ nat_lt x y
unfolding is_less
less_places x y (inl h) = ap (λ o. is_less (ordering_then o Equal)) h.1 ∙ sym (lt-ltb x y h.0)
less_places x y (inr (inl h)) = ap (λ o. is_less (ordering_then o Equal)) h.1 ∙ sym (le-ltb x y (omega arith))
less_places x y (inr (inr h)) = ap (λ o. is_less (ordering_then o Equal)) h.1 ∙ sym (le-ltb x y (omega arith))

spot_step : (a b : Option ℕ) (o r : Ordering) (s : Stands) → is_less r ≡ earlier_spot a b s → is_less (ordering_then o r) ≡ earlier_spot a b (then_stands o s)
unfolding is_less
spot_step a b Less r s e = refl
spot_step a b Equal r s e = e
spot_step a b Greater r s e = refl

pub before_is : (p q : List ℕ) (a b : Option ℕ) → is_before (p, a) (q, b) ≡ earlier_spot a b (stands p q)
unfolding is_before is_less stands
before_is [] [] None None = refl
before_is [] [] None (Some y) = refl
before_is [] [] (Some x) None = refl
before_is [] [] (Some x) (Some y) = less_places x y (places x y)
before_is [] (j ∷ q) None b = refl
before_is [] (j ∷ q) (Some x) b = refl
before_is (i ∷ p) [] a None = refl
before_is (i ∷ p) [] a (Some y) = refl
before_is (i ∷ p) (j ∷ q) a b = spot_step a b (nat_cmp i j) (slice_cmp step_cmp (steps p a) (steps q b)) (stands p q) (before_is p q a b)

longer_by : (p q : List ℕ) (j : ℕ) (r : List ℕ) → q ≡ p ++ j ∷ r → length q ≡ length p + suc (length r)
longer_by p q j r e = ap length e ∙ length-append p (j ∷ r)

-- below, by so many steps
up_cases : (p q : List ℕ) (s : Stands) → s ≡ stands p q → (m n : ℕ) → (length p ≤ m) → (m ≤ length p) → (length q ≤ n) → (n ≤ length q) → (is_over s && nat_lt m n) ≡ is_up s
up_cases p q before e m n a b c d = refl
up_cases p q above e m n a b c d = let x = above_is p q (sym e) in let l = longer_by p q x.0 x.1 x.2 in lt-ltb m n (omega arith)
up_cases p q same e m n a b c d = let x = ap length (same_is p q (sym e)) in le-ltb m n (omega arith)
up_cases p q below e m n a b c d = refl
up_cases p q after e m n a b c d = refl

over_cases : (p q : List ℕ) (s : Stands) → s ≡ stands p q → (m n : ℕ) → (m ≤ length p) → (length q + 1 ≤ n) → (is_over s && nat_lt m n) ≡ is_over s
over_cases p q before e m n a b = refl
over_cases p q above e m n a b = let x = above_is p q (sym e) in let l = longer_by p q x.0 x.1 x.2 in lt-ltb m n (omega arith)
over_cases p q same e m n a b = let x = ap length (same_is p q (sym e)) in lt-ltb m n (omega arith)
over_cases p q below e m n a b = refl
over_cases p q after e m n a b = refl

pub descendant_is : (p q : List ℕ) → is_descendant (p, None) (q, None) ≡ is_up (stands p q)
unfolding is_descendant is_attribute
descendant_is p q = ap (λ b. b && nat_lt (length p) (length q)) (begins_is p q) ∙ up_cases p q (stands p q) refl (length p) (length q) (omega arith) (omega arith) (omega arith) (omega arith)

pub ancestor_is : (p q : List ℕ) → is_ancestor (p, None) (q, None) ≡ is_up (stands q p)
unfolding is_ancestor is_attribute way_length
ancestor_is p q = ap (λ b. b && nat_lt (length q + 0) (length p + 0)) (begins_is q p) ∙ up_cases q p (stands q p) refl (length q + 0) (length p + 0) (omega arith) (omega arith) (omega arith) (omega arith)

pub attribute_ancestor_is : (p q : List ℕ) (k : ℕ) → is_ancestor (p, Some k) (q, None) ≡ is_over (stands q p)
unfolding is_ancestor is_attribute way_length
attribute_ancestor_is p q k = ap (λ b. b && nat_lt (length q + 0) (length p + 1)) (begins_is q p) ∙ over_cases q p (stands q p) refl (length q + 0) (length p + 1) (omega arith) (omega arith)

following_cases : (s : Stands) → (earlier_spot None None s && true && not (is_up s)) ≡ is_before_all s
following_cases before = refl
following_cases above = refl
following_cases same = refl
following_cases below = refl
following_cases after = refl

pub following_is : (p q : List ℕ) → is_following (p, None) (q, None) ≡ is_before_all (stands p q)
unfolding is_following is_attribute
following_is p q = ap (λ b. b && true && not (is_descendant (p, None) (q, None))) (before_is p q None None) ∙ ap (λ b. earlier_spot None None (stands p q) && true && not b) (descendant_is p q) ∙ following_cases (stands p q)

attribute_following_cases : (k : ℕ) (s : Stands) → (earlier_spot (Some k) None s && true && not false) ≡ is_earlier s
attribute_following_cases k before = refl
attribute_following_cases k above = refl
attribute_following_cases k same = refl
attribute_following_cases k below = refl
attribute_following_cases k after = refl

pub attribute_following_is : (p q : List ℕ) (k : ℕ) → is_following (p, Some k) (q, None) ≡ is_earlier (stands p q)
unfolding is_following is_attribute is_descendant
attribute_following_is p q k = ap (λ b. b && true && not false) (before_is p q (Some k) None) ∙ attribute_following_cases k (stands p q)

pub preceding_is : (p q : List ℕ) → is_preceding (p, None) (q, None) ≡ is_before_all (stands q p)
unfolding is_preceding is_attribute
preceding_is p q = ap (λ b. b && true && not (is_ancestor (p, None) (q, None))) (before_is q p None None) ∙ ap (λ b. earlier_spot None None (stands q p) && true && not b) (ancestor_is p q) ∙ following_cases (stands q p)

attribute_preceding_cases : (k : ℕ) (s : Stands) → (earlier_spot None (Some k) s && true && not (is_over s)) ≡ is_before_all s
attribute_preceding_cases k before = refl
attribute_preceding_cases k above = refl
attribute_preceding_cases k same = refl
attribute_preceding_cases k below = refl
attribute_preceding_cases k after = refl

pub attribute_preceding_is : (p q : List ℕ) (k : ℕ) → is_preceding (p, Some k) (q, None) ≡ is_before_all (stands q p)
unfolding is_preceding is_attribute
attribute_preceding_is p q k =
    ap (λ b. b && true && not (is_ancestor (p, Some k) (q, None))) (before_is q p None (Some k)) ∙ ap (λ b. earlier_spot None (Some k) (stands q p) && true && not b) (attribute_ancestor_is p q k)
    ∙ attribute_preceding_cases k (stands q p)

further_by : (p q : List ℕ) (j : ℕ) (r : List ℕ) → q ≡ p ++ j ∷ r → length q ≡ length p + 1 → (j : ℕ) × (q ≡ p ++ j ∷ [])
further_by p q j [] e l = (j, e)
further_by p q j (x ∷ r) e l = let k = longer_by p q j (x ∷ r) e in absurd (omega arith)

-- a child is one step further
one_further : (p q : List ℕ) (s : Stands) (m : ℕ) → s ≡ stands p q → is_over s ≡ true → length q ≡ length p + 1 → (j : ℕ) × (q ≡ p ++ j ∷ [])
one_further p q before m e o l = cc
one_further p q above m e o l = let x = above_is p q (sym e) in further_by p q x.0 x.1 x.2 l
one_further p q same m e o l = let x = ap length (same_is p q (sym e)) in absurd (omega arith)
one_further p q below m e o l = cc
one_further p q after m e o l = cc

pub child_parts : (p q : List ℕ) → is_child (p, None) (q, None) ≡ true → (j : ℕ) × (q ≡ p ++ j ∷ [])
unfolding is_child is_attribute
child_parts p q h =
    let x = and_parts (begins_with p q) (nat_eq (length q) (length p + 1)) h in
    one_further p q (stands p q) 0 refl (sym (begins_is p q) ∙ x.0) (eqb-true (length q) (length p + 1) x.1)

pub child_on : (p : List ℕ) (j : ℕ) → is_child (p, None) (p ++ j ∷ [], None) ≡ true
unfolding is_child is_attribute
child_on p j =
    let b : begins_with p (p ++ j ∷ []) ≡ true = begins_is p (p ++ j ∷ []) ∙ ap is_over (stands-longer p j []) in
    let l : length (p ++ j ∷ []) ≡ length p + 1 = length-append p (j ∷ []) in
    ap (λ z. z && nat_eq (length (p ++ j ∷ [])) (length p + 1)) b ∙ eq-eqb (length (p ++ j ∷ [])) (length p + 1) l

pub parent_parts : (p q : List ℕ) → is_parent (p, None) (q, None) ≡ true → (j : ℕ) × (p ≡ q ++ j ∷ [])
unfolding is_parent is_attribute way_length
parent_parts p q h =
    let x = and_parts (begins_with q p) (nat_eq (length p + 0) (length q + 0 + 1)) h in
    let l = eqb-true (length p + 0) (length q + 0 + 1) x.1 in
    one_further q p (stands q p) 0 refl (sym (begins_is q p) ∙ x.0) (omega arith)

pub parent_on : (q : List ℕ) (j : ℕ) → is_parent (q ++ j ∷ [], None) (q, None) ≡ true
unfolding is_parent is_attribute way_length
parent_on q j =
    let b : begins_with q (q ++ j ∷ []) ≡ true = begins_is q (q ++ j ∷ []) ∙ ap is_over (stands-longer q j []) in
    let l : length (q ++ j ∷ []) ≡ length q + 1 = length-append q (j ∷ []) in
    let m : length (q ++ j ∷ []) + 0 ≡ length q + 0 + 1 = omega arith in
    ap (λ z. z && nat_eq (length (q ++ j ∷ []) + 0) (length q + 0 + 1)) b ∙ eq-eqb (length (q ++ j ∷ []) + 0) (length q + 0 + 1) m

same_length : (p q : List ℕ) (s : Stands) → s ≡ stands q p → is_over s ≡ true → length p ≡ length q → q ≡ p
same_length p q before e o l = cc
same_length p q above e o l = let x = above_is q p (sym e) in let k = longer_by q p x.0 x.1 x.2 in absurd (omega arith)
same_length p q same e o l = same_is q p (sym e)
same_length p q below e o l = cc
same_length p q after e o l = cc

pub owner_parts : (p q : List ℕ) (k : ℕ) → is_parent (p, Some k) (q, None) ≡ true → q ≡ p
unfolding is_parent is_attribute way_length
owner_parts p q k h =
    let x = and_parts (begins_with q p) (nat_eq (length p + 1) (length q + 0 + 1)) h in
    let l = eqb-true (length p + 1) (length q + 0 + 1) x.1 in
    same_length p q (stands q p) refl (sym (begins_is q p) ∙ x.0) (omega arith)

pub owner_on : (p : List ℕ) (k : ℕ) → is_parent (p, Some k) (p, None) ≡ true
unfolding is_parent is_attribute way_length
owner_on p k =
    let b : begins_with p p ≡ true = begins_is p p ∙ ap is_over (stands-same p) in
    let m : length p + 1 ≡ length p + 0 + 1 = omega arith in
    ap (λ z. z && nat_eq (length p + 1) (length p + 0 + 1)) b ∙ eq-eqb (length p + 1) (length p + 0 + 1) m

-- siblings
pub record Siblings (p q : List ℕ) : Type 0 where
  pub front : List ℕ
  pub left : ℕ
  pub right : ℕ
  pub left_is : p ≡ front ++ left ∷ []
  pub right_is : q ≡ front ++ right ∷ []
  pub order : left < right

pub siblings_parts : (p q : List ℕ) → is_later_sibling p q ≡ true → Siblings p q
unfolding is_later_sibling
siblings_parts [] q h = cc
siblings_parts (i ∷ p) [] h = cc
siblings_parts (i ∷ []) (j ∷ []) h = record { front = []; left = i; right = j; left_is = refl; right_is = refl; order = ltb-true i j h }
siblings_parts (i ∷ []) (j ∷ k ∷ q) h = cc
siblings_parts (i ∷ k ∷ p) (j ∷ q) h =
    let x = and_parts (nat_eq i j) (is_later_sibling (k ∷ p) q) h in
    let e = eqb-true i j x.0 in
    let s = siblings_parts (k ∷ p) q x.1 in record {
      front = i ∷ s.front;
      left = s.left;
      right = s.right;
      left_is = ap (λ (z : List ℕ). i ∷ z) s.left_is;
      right_is = ap (λ (z : ℕ). z ∷ q) (sym e) ∙ ap (λ (z : List ℕ). i ∷ z) s.right_is;
      order = s.order;
    }

siblings_more : (x : ℕ) (front : List ℕ) (i j : ℕ) → is_later_sibling (front ++ i ∷ []) (front ++ j ∷ []) ≡ true → is_later_sibling (x ∷ (front ++ i ∷ [])) (x ∷ (front ++ j ∷ [])) ≡ true
unfolding is_later_sibling
siblings_more x [] i j h = ap (λ b. b && nat_lt i j) (eq-eqb x x refl) ∙ h
siblings_more x (y ∷ front) i j h = ap (λ b. b && is_later_sibling (y ∷ (front ++ i ∷ [])) (y ∷ (front ++ j ∷ []))) (eq-eqb x x refl) ∙ h

pub siblings_on : (front : List ℕ) (i j : ℕ) → i < j → is_later_sibling (front ++ i ∷ []) (front ++ j ∷ []) ≡ true
unfolding is_later_sibling
siblings_on [] i j h = lt-ltb i j h
siblings_on (x ∷ front) i j h = siblings_more x front i j (siblings_on front i j h)
