-- Rising lists of places, merged.
use Rattle.std.proofs.Common.{◌≡◌, ℕ, zero, suc, ◌+◌, ◌<◌, ◌≤◌, ◌-◌, Bool, true, false, List, []}
use Rattle.std.proofs.Common.{◌∷◌, ◌++◌, length, take, drop, get_or}
use Rattle.std.proofs.Common.{refl, ap, sym, ◌∙◌, arith, ◌||◌, if◌then◌else◌}
use Rattle.std.specs.Cmp.{nat_cmp_is}
use Rattle.std.specs.List.{list_any}
use Rattle.std.specs.Ordering.{nat_cmp}
use Rattle.std.specs.declared.cmp.Ordering.TheVariants.{Less, Equal, Greater}
use Rattle.std.proofs.lemmas.List.{append_assoc, append-nil, drop_more, length-drop}
use Rattle.std.proofs.Math.Seq.{take-length}
use Rattle.order_group.specs.Groups.{places_where}
use Rattle.key_index.specs.Merges.{merged, next_of}

pub merged_none : (xs : List ℕ) → merged xs [] ≡ xs
unfolding merged
merged_none [] = refl
merged_none (x ∷ xs) = refl

is_less : (x y : ℕ) → x < y → nat_cmp x y ≡ Less
is_less x y h = sym (nat_cmp_is x y Less h)

is_greater : (x y : ℕ) → y < x → nat_cmp x y ≡ Greater
is_greater x y h = sym (nat_cmp_is x y Greater h)

is_equal : (x : ℕ) → nat_cmp x x ≡ Equal
is_equal x = sym (nat_cmp_is x x Equal refl)

-- no place of the list comes before the next one
abbrev IsAfter : ℕ → List ℕ → Type 0
IsAfter n [] = Unit {0}
IsAfter n (y ∷ ys) = n < y

after_where : {X : Type 0} (test : X → Bool) (n m : ℕ) (xs : List X) → n < m
    → IsAfter n (places_where test m xs)
after_where test n m [] h = tt
after_where test n m (x ∷ xs) h = by (test x) (after_where test n (suc m) xs (omega arith))
  where
    by : (b : Bool) → IsAfter n (places_where test (suc m) xs)
        → IsAfter n (if b then m ∷ places_where test (suc m) xs else places_where test (suc m) xs)
    by true later = h
    by false later = later

first_left : (n : ℕ) (xs ys : List ℕ) → IsAfter n ys → merged (n ∷ xs) ys ≡ n ∷ merged xs ys
unfolding merged
first_left n xs [] h = ap (λ (zs : List ℕ). n ∷ zs) (sym (merged_none xs))
first_left n xs (y ∷ ys) h = rw (is_less n y h) refl

first_right : (n : ℕ) (xs ys : List ℕ) → IsAfter n xs → merged xs (n ∷ ys) ≡ n ∷ merged xs ys
unfolding merged
first_right n [] ys h = refl
first_right n (x ∷ xs) ys h = rw (is_greater x n h) refl

first_both : (n : ℕ) (xs ys : List ℕ) → merged (n ∷ xs) (n ∷ ys) ≡ n ∷ merged xs ys
unfolding merged
first_both n xs ys = rw (is_equal n) refl

-- the places of what passes one test, and of what passes another
pub merged_where : {X : Type 0} (s t : X → Bool) (n : ℕ) (xs : List X)
    → merged (places_where s n xs) (places_where t n xs) ≡ places_where (λ x. s x || t x) n xs
unfolding merged
merged_where s t n [] = refl
merged_where s t n (x ∷ xs) = by (s x) (t x) (merged_where s t (suc n) xs)
  where
    by : (b c : Bool) → merged (places_where s (suc n) xs) (places_where t (suc n) xs)
        ≡ places_where (λ x. s x || t x) (suc n) xs
        → merged (if b then n ∷ places_where s (suc n) xs else places_where s (suc n) xs)
        (if c then n ∷ places_where t (suc n) xs else places_where t (suc n) xs)
        ≡ (if b || c then n ∷ places_where (λ x. s x || t x) (suc n) xs else places_where
        (λ x. s x || t x) (suc n) xs)
    by true true e = first_both n _ _ ∙ ap (λ (zs : List ℕ). n ∷ zs) e
    by true false e = first_left n _ _ (after_where t n (suc n) xs (omega arith))
        ∙ ap (λ (zs : List ℕ). n ∷ zs) e
    by false true e = first_right n _ _ (after_where s n (suc n) xs (omega arith))
        ∙ ap (λ (zs : List ℕ). n ∷ zs) e
    by false false e = e

pub no_place : {X : Type 0} (n : ℕ) (xs : List X) → places_where (λ x. false) n xs ≡ []
no_place n [] = refl
no_place n (x ∷ xs) = no_place (suc n) xs

-- some of the first, or some of the others
pub some_of_halves : {X : Type 0} (test : X → Bool) (half : ℕ) (xs : List X)
    → (list_any test (take half xs) || list_any test (drop half xs)) ≡ list_any test xs
some_of_halves test zero xs = refl
some_of_halves test (suc n) [] = refl
some_of_halves test (suc n) (x ∷ xs) = by (test x) (some_of_halves test n xs)
  where
    by : (b : Bool) → (list_any test (take n xs) || list_any test (drop n xs))
        ≡ list_any test xs → ((b || list_any test (take n xs)) || list_any test (drop n xs))
        ≡ (b || list_any test xs)
    by true e = refl
    by false e = e

-- steps of a merge

pub merge_less : (made xs ys zs us all : List ℕ) (x y : ℕ) → xs ≡ x ∷ zs → ys ≡ y ∷ us
    → Less ≡ nat_cmp x y → made ++ merged xs ys ≡ all → (made ++ x ∷ []) ++ merged zs ys ≡ all
unfolding merged
merge_less made xs ys zs us all x y e f o h =
    append_assoc made (x ∷ []) (merged zs ys)
    ∙ ap (λ l. made ++ x ∷ merged zs l) f
    ∙ ap (λ o. made ++ next_of o x y (merged zs (y ∷ us)) (merged zs us) (merged (x ∷ zs) us)) o
    ∙ sym (ap (λ l. made ++ merged l ys) e ∙ ap (λ l. made ++ merged (x ∷ zs) l) f) ∙ h

pub merge_equal : (made xs ys zs us all : List ℕ) (x y : ℕ) → xs ≡ x ∷ zs → ys ≡ y ∷ us
    → Equal ≡ nat_cmp x y → made ++ merged xs ys ≡ all → (made ++ x ∷ []) ++ merged zs us ≡ all
unfolding merged
merge_equal made xs ys zs us all x y e f o h =
    append_assoc made (x ∷ []) (merged zs us)
    ∙ ap (λ o. made ++ next_of o x y (merged zs (y ∷ us)) (merged zs us) (merged (x ∷ zs) us)) o
    ∙ sym (ap (λ l. made ++ merged l ys) e ∙ ap (λ l. made ++ merged (x ∷ zs) l) f) ∙ h

pub merge_greater : (made xs ys zs us all : List ℕ) (x y : ℕ) → xs ≡ x ∷ zs → ys ≡ y ∷ us
    → Greater ≡ nat_cmp x y → made ++ merged xs ys ≡ all → (made ++ y ∷ []) ++ merged xs us ≡ all
unfolding merged
merge_greater made xs ys zs us all x y e f o h =
    append_assoc made (y ∷ []) (merged xs us)
    ∙ ap (λ l. made ++ y ∷ merged l us) e
    ∙ ap (λ o. made ++ next_of o x y (merged zs (y ∷ us)) (merged zs us) (merged (x ∷ zs) us)) o
    ∙ sym (ap (λ l. made ++ merged l ys) e ∙ ap (λ l. made ++ merged (x ∷ zs) l) f) ∙ h

pub less_at : (made xs ys all : List ℕ) (i j : ℕ) → i < length xs → j < length ys
    → Less ≡ nat_cmp (get_or xs i 0) (get_or ys j 0)
    → made ++ merged (drop i xs) (drop j ys) ≡ all
    → (made ++ get_or xs i 0 ∷ []) ++ merged (drop (i + 1) xs) (drop j ys) ≡ all
less_at made xs ys all i j l r o h =
    merge_less made (drop i xs) (drop j ys) (drop (i + 1) xs) (drop (j + 1) ys) all
    (get_or xs i 0) (get_or ys j 0) (drop_more xs i 0 l) (drop_more ys j 0 r) o h

pub equal_at : (made xs ys all : List ℕ) (i j : ℕ) → i < length xs → j < length ys
    → Equal ≡ nat_cmp (get_or xs i 0) (get_or ys j 0)
    → made ++ merged (drop i xs) (drop j ys) ≡ all
    → (made ++ get_or xs i 0 ∷ []) ++ merged (drop (i + 1) xs) (drop (j + 1) ys) ≡ all
equal_at made xs ys all i j l r o h =
    merge_equal made (drop i xs) (drop j ys) (drop (i + 1) xs) (drop (j + 1) ys) all
    (get_or xs i 0) (get_or ys j 0) (drop_more xs i 0 l) (drop_more ys j 0 r) o h

pub greater_at : (made xs ys all : List ℕ) (i j : ℕ) → i < length xs → j < length ys
    → Greater ≡ nat_cmp (get_or xs i 0) (get_or ys j 0)
    → made ++ merged (drop i xs) (drop j ys) ≡ all
    → (made ++ get_or ys j 0 ∷ []) ++ merged (drop i xs) (drop (j + 1) ys) ≡ all
greater_at made xs ys all i j l r o h =
    merge_greater made (drop i xs) (drop j ys) (drop (i + 1) xs) (drop (j + 1) ys) all
    (get_or xs i 0) (get_or ys j 0) (drop_more xs i 0 l) (drop_more ys j 0 r) o h

none_left : (xs : List ℕ) (i : ℕ) → length xs ≤ i → drop i xs ≡ []
none_left [] zero h = refl
none_left [] (suc i) h = refl
none_left (x ∷ xs) zero h = absurd (omega arith)
none_left (x ∷ xs) (suc i) h = none_left xs i (omega arith)

pub no_second : (xs ys : List ℕ) (i j : ℕ) → length ys ≤ j
    → merged (drop i xs) (drop j ys) ≡ drop i xs ++ drop j ys
no_second xs ys i j r =
    let n = none_left ys j r in
    ap (merged (drop i xs)) n ∙ merged_none (drop i xs) ∙ sym (append-nil (drop i xs))
    ∙ ap (λ l. drop i xs ++ l) (sym n)

pub no_first : (xs ys : List ℕ) (i j : ℕ) → length xs ≤ i
    → merged (drop i xs) (drop j ys) ≡ drop i xs ++ drop j ys
unfolding merged
no_first xs ys i j r = let n = none_left xs i r in ap (λ l. merged l (drop j ys)) n
    ∙ ap (λ l. l ++ drop j ys) (sym n)

pub to_end : {X : Type 0} (xs : List X) (i : ℕ) → take (length xs - i) (drop i xs) ≡ drop i xs
to_end xs i = ap (λ n. take n (drop i xs)) (sym (length-drop i xs)) ∙ take-length (drop i xs)

-- what is left of both is put to the end
pub ends : (made xs ys all more again : List ℕ) (i j : ℕ)
    → merged (drop i xs) (drop j ys) ≡ drop i xs ++ drop j ys
    → more ≡ made ++ take (length xs - i) (drop i xs)
    → again ≡ more ++ take (length ys - j) (drop j ys)
    → made ++ merged (drop i xs) (drop j ys) ≡ all → again ≡ all
ends made xs ys all more again i j r e f h =
    f ∙ ap (λ l. more ++ l) (to_end ys j)
    ∙ ap (λ l. l ++ drop j ys) (e ∙ ap (λ l. made ++ l) (to_end xs i))
    ∙ append_assoc made (drop i xs) (drop j ys) ∙ ap (λ l. made ++ l) (sym r) ∙ h
