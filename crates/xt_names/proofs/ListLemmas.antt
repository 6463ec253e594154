-- Facts of lists that several crates cite.
use Rattle.std.proofs.Common.{◌≡◌, ℕ, zero, suc, ◌+◌, ◌-◌, ◌<◌, ◌≤◌, List, [], ◌∷◌, ◌++◌, length, drop, take, get_or, add-one, sym, ap, ◌∙◌, arith, refl}
use Rattle.std.proofs.Common.{Bool, true, false, ◌&&◌, ◌||◌, cond, not, map, Some}
use Rattle.std.proofs.Math.Seq.{drop-cons, take-length}
use Rattle.std.proofs.lemmas.Bool.{and_parts}
use Rattle.std.specs.List.{Contains, slice_range, list_any, list_all, filter, range_with_len}
use Rattle.xt_names.proofs.BoolLemmas.{differ_step}

-- a range from the first place on is the front of the list
pub front_of_range : (s front : List ℕ) (n : ℕ) → front ≡ slice_range s 0 n → front ≡ take n s
front_of_range s front n e = grind (arith, e)

-- a list from a place on begins with what is there
pub drop_at : {A : Type 0} (xs : List A) (i : ℕ) (x : A) → i < length xs → x ≡ get_or xs i x → drop i xs ≡ x ∷ drop (i + 1) xs
drop_at xs i x h e = drop-cons xs i x h ∙ ap (λ y. y ∷ drop (suc i) xs) (sym e) ∙ ap (λ j. x ∷ drop j xs) (sym (add-one i))

-- what a list contains, a longer one contains
pub further : {X : Type 0} (x y : X) (xs : List X) → Contains xs y → Contains (x ∷ xs) y
further x y xs (k, h, e) = (suc k, omega arith, e)

-- a list from a place on, which has an element
pub drop_next : {A : Type 0} (xs : List A) (k : ℕ) (d : A) → k < length xs → drop k xs ≡ get_or xs k d ∷ drop (k + 1) xs
drop_next xs k d h = rw (add-one, drop-cons xs k d) refl

pub first_of : {A : Type 0} (xs : List A) (x : A) → 1 ≤ length xs → x ≡ get_or xs 0 x
    → xs ≡ x ∷ take (length xs - 1) (drop 1 xs)
first_of [] x h e = absurd (omega (arith, h))
first_of (z ∷ zs) x h e =
    let n : length (z ∷ zs) - 1 ≡ length zs = omega arith in rw (n, take-length zs, e) refl

-- where two lists after another are empty, each is
pub front_nil : {A : Type 0} (xs ys : List A) → xs ++ ys ≡ [] → xs ≡ []
front_nil [] ys e = refl
front_nil (x ∷ xs) ys e = absurd cc

pub back_nil : {A : Type 0} (xs ys : List A) → xs ++ ys ≡ [] → ys ≡ []
back_nil [] ys e = e
back_nil (x ∷ xs) ys e = absurd cc

-- what comes after a front and one element
dropped_all : {A : Type 0} (p : List A) (c : A) (more : List A) → drop (suc (length p)) (p ++ c ∷ more) ≡ more
dropped_all [] c more = refl
dropped_all (d ∷ p) c more = dropped_all p c more

pub dropped : {A : Type 0} (p : List A) (c : A) (more : List A) → drop (length p + 1) (p ++ c ∷ more) ≡ more
dropped p c more =
    let same : length p + 1 ≡ suc (length p) = omega arith in rw same (dropped_all p c more)

pub list_all-push : {A : Type 0} (p : A → Bool) (xs : List A) (c : A) → list_all p xs ≡ true → p c ≡ true → list_all p (xs ++ c ∷ []) ≡ true
list_all-push p [] c a h = rw h refl
list_all-push p (x ∷ xs) c a h =
    let parts = and_parts (p x) (list_all p xs) a in rw (parts.0, list_all-push p xs c parts.1 h) refl

pub any_filter : {X : Type 0} (p q : X → Bool) (xs : List X) → list_any p (filter q xs) ≡ list_any (λ x. q x && p x) xs
any_filter p q [] = refl
any_filter p q (x ∷ xs) = by (q x) (any_filter p q xs)
  where
    by : (b : Bool) → list_any p (filter q xs) ≡ list_any (λ x. q x && p x) xs →
        list_any p (cond b (x ∷ filter q xs) (filter q xs))
        ≡ ((b && p x) || list_any (λ x. q x && p x) xs)
    by true e = ap (λ (z : Bool). p x || z) e
    by false e = e

pub any_map : {X Y : Type 0} (p : X → Bool) (h : Y → X) (ys : List Y) → list_any p (map h ys) ≡ list_any (λ y. p (h y)) ys
any_map p h [] = refl
any_map p h (y ∷ ys) = ap (λ (z : Bool). p (h y) || z) (any_map p h ys)

pub any_same : {X : Type 0} (p q : X → Bool) (xs : List X) → ((x : X) → p x ≡ q x) → list_any p xs ≡ list_any q xs
any_same p q [] h = refl
any_same p q (x ∷ xs) h = rw (h x, any_same p q xs h) refl

-- a table with one more key: what is new to it
pub all_new : {A : Type 0} (f g h : A → Bool) (xs : List A) → ((x : A) → f x ≡ cond (g x) true (h x))
    → list_all (λ x. not (f x)) xs ≡ (not (list_any g xs) && list_all (λ x. not (h x)) xs)
all_new f g h [] e = refl
all_new f g h (x ∷ xs) e =
    let ih = all_new f g h xs e in
    rw (e x, ih) (differ_step (g x) (h x) (list_any g xs) (list_all (λ y. not (h y)) xs))

-- a range of numbers that is longer by one
count_more : (n a : ℕ) → range_with_len a (suc n) ≡ range_with_len a n ++ (a + n) ∷ []
count_more zero a = let e : a ≡ a + 0 = omega arith in ap (λ (k : ℕ). k ∷ []) e
count_more (suc n) a =
    let e : a + 1 + n ≡ a + suc n = omega arith in
    ap (λ (l : List ℕ). a ∷ l)
    (count_more n (a + 1) ∙ ap (λ (k : ℕ). range_with_len (a + 1) n ++ k ∷ []) e)

pub number_more : (n : ℕ) → range_with_len 0 (n + 1) ≡ range_with_len 0 n ++ n ∷ []
number_more n =
    let e : 0 + n ≡ n = omega arith in
    ap (range_with_len 0) (add-one n)
    ∙ (count_more n 0 ∙ ap (λ (k : ℕ). range_with_len 0 n ++ k ∷ []) e)

pub some_same : {A : Type 0} {x y : A} → Some x ≡ Some y → x ≡ y
some_same e = cc
