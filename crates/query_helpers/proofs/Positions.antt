-- Items by their positions.
use Rattle.std.proofs.Common.{◌≡◌, ◌+◌, ◌<◌, ◌≤◌, ℕ, zero, suc, List, [], ◌∷◌, refl, ap, ◌∙◌}
use Rattle.std.proofs.Common.{take, drop, arith}
use Rattle.std.proofs.lemmas.Bool.Decides.{nat_tests}
use Rattle.std.specs.Prelude.{Bool, true, false, not, ◌&&◌, if◌then◌else◌, ℤ, pos, int_lt, ◌+ℤ◌}
use Rattle.std.specs.Ordering.{int_eq}
use Rattle.xdm_items.specs.declared.items.Item.{Item}
use Rattle.item_functions.specs.SequenceFunctions.Positions.{items_at, from_start, from_start_so_many, removed}

step_at : (t : ℤ → Bool) (n : ℕ) (x : Item) (xs : List Item) (b : Bool) → t (pos n) ≡ b →
    items_at t n (x ∷ xs) ≡ (if b then x ∷ items_at t (suc n) xs else items_at t (suc n) xs)
step_at t n x xs b h =
    ap (λ c. if c then x ∷ items_at t (suc n) xs else items_at t (suc n) xs) h

-- those before are passed over
skip : (t : ℤ → Bool) (j n : ℕ) (xs : List Item) →
    ((k : ℕ) → n ≤ k → k < n + j → t (pos k) ≡ false) →
    items_at t n xs ≡ items_at t (n + j) (drop j xs)
skip t zero n xs h = ap (λ m. items_at t m xs) (omega arith)
skip t (suc j) n [] h = refl
skip t (suc j) n (x ∷ xs) h =
    step_at t n x xs false (h n (omega arith) (omega arith))
    ∙ skip t j (suc n) xs (λ k l u. h k (omega arith) (omega arith))
    ∙ ap (λ m. items_at t m (drop j xs)) (omega arith)

-- so many are taken
taken : (t : ℤ → Bool) (m n : ℕ) (xs : List Item) →
    ((k : ℕ) → n ≤ k → k < n + m → t (pos k) ≡ true) → ((k : ℕ) → n + m ≤ k → t (pos k) ≡ false) →
    items_at t n xs ≡ take m xs
taken t zero n [] h g = refl
taken t (suc m) n [] h g = refl
taken t zero n (x ∷ xs) h g =
    step_at t n x xs false (g n (omega arith))
    ∙ taken t zero (suc n) xs (λ k l u. absurd (omega arith)) (λ k l. g k (omega arith))
    ∙ none_taken xs
  where
    none_taken : (ys : List Item) → take zero ys ≡ take zero (x ∷ ys)
    none_taken [] = refl
    none_taken (y ∷ ys) = refl
taken t (suc m) n (x ∷ xs) h g =
    step_at t n x xs true (h n (omega arith) (omega arith))
    ∙ ap (λ l. x ∷ l) (taken t m (suc n) xs (λ k l u. h k (omega arith) (omega arith))
    (λ k l. g k (omega arith)))

all_on : (t : ℤ → Bool) (n : ℕ) (xs : List Item) → ((k : ℕ) → n ≤ k → t (pos k) ≡ true) →
    items_at t n xs ≡ xs
all_on t n [] h = refl
all_on t n (x ∷ xs) h =
    step_at t n x xs true (h n (omega arith))
    ∙ ap (λ l. x ∷ l) (all_on t (suc n) xs (λ k l. h k (omega arith)))

below : (j k : ℕ) → k < 1 + j → not (int_lt (pos k) (pos (suc j))) ≡ false
below j k h = grind (arith, nat_tests)

not_below : (j k : ℕ) → 1 + j ≤ k → not (int_lt (pos k) (pos (suc j))) ≡ true
not_below j k h = grind (arith, nat_tests)

pub from_place : (j : ℕ) (xs : List Item) → from_start xs (pos (suc j)) ≡ drop j xs
unfolding from_start
from_place j xs =
    skip (λ p. not (int_lt p (pos (suc j)))) j 1 xs (λ k l u. below j k u)
    ∙ all_on (λ p. not (int_lt p (pos (suc j)))) (1 + j) (drop j xs) (λ k l. not_below j k l)

other : (k : ℕ) → 2 ≤ k → not (int_eq (pos k) (pos 1)) ≡ true
other k h = grind (arith, nat_tests)

pub without_first : (x : Item) (xs : List Item) → removed (x ∷ xs) (pos 1) ≡ xs
unfolding removed
without_first x xs = all_on (λ p. not (int_eq p (pos 1))) 2 xs other

pub without_any : removed [] (pos 1) ≡ []
unfolding removed
without_any = refl

within : (j k : ℕ) → j ≤ k → k < j + 3 →
    (not (int_lt (pos k) (pos j)) && int_lt (pos k) (pos (j + 3))) ≡ true
within j k h g = grind (arith, nat_tests)

beyond : (j k : ℕ) → j + 3 ≤ k →
    (not (int_lt (pos k) (pos j)) && int_lt (pos k) (pos (j + 3))) ≡ false
beyond j k h = grind (arith, nat_tests)

before : (j k : ℕ) → k < j → (not (int_lt (pos k) (pos j)) && int_lt (pos k) (pos (j + 3))) ≡ false
before j k h = grind (arith, nat_tests)

-- the first two, or the one before a place with the two from there on
pub near_first : (xs : List Item) → from_start_so_many xs (pos 0) (pos 3) ≡ take 2 xs
unfolding from_start_so_many
near_first xs =
    taken (λ p. not (int_lt p (pos 0)) && int_lt p (pos 0 +ℤ pos 3)) 2 1 xs
    (λ k l u. within 0 k (omega arith) (omega arith)) (λ k l. beyond 0 k (omega arith))

pub near_later : (i : ℕ) (xs : List Item) →
    from_start_so_many xs (pos (suc i)) (pos 3) ≡ take 3 (drop i xs)
unfolding from_start_so_many
near_later i xs =
    skip (λ p. not (int_lt p (pos (suc i))) && int_lt p (pos (suc i + 3))) i 1 xs
    (λ k l u. before (suc i) k (omega arith))
    ∙ taken (λ p. not (int_lt p (pos (suc i))) && int_lt p (pos (suc i + 3))) 3 (1 + i) (drop i xs)
    (λ k l u. within (suc i) k (omega arith) (omega arith)) (λ k l. beyond (suc i) k (omega arith))

-- the one before a place
pub one_first : (xs : List Item) → from_start_so_many xs (pos 0) (pos 1) ≡ []
unfolding from_start_so_many
one_first xs =
    taken (λ p. not (int_lt p (pos 0)) && int_lt p (pos 0 +ℤ pos 1)) 0 1 xs
    (λ k l u. absurd (omega arith)) (λ k l. past 0 k (omega arith)) ∙ none xs
  where
    none : (ys : List Item) → take 0 ys ≡ []
    none [] = refl
    none (y ∷ ys) = refl

    past : (j k : ℕ) → j + 1 ≤ k → (not (int_lt (pos k) (pos j)) && int_lt (pos k) (pos (j + 1))) ≡ false
    past j k h = grind (arith, nat_tests)

at_one : (j k : ℕ) → j ≤ k → k < j + 1 →
    (not (int_lt (pos k) (pos j)) && int_lt (pos k) (pos (j + 1))) ≡ true
at_one j k h g = grind (arith, nat_tests)

past_one : (j k : ℕ) → j + 1 ≤ k →
    (not (int_lt (pos k) (pos j)) && int_lt (pos k) (pos (j + 1))) ≡ false
past_one j k h = grind (arith, nat_tests)

before_one : (j k : ℕ) → k < j → (not (int_lt (pos k) (pos j)) && int_lt (pos k) (pos (j + 1))) ≡ false
before_one j k h = grind (arith, nat_tests)

pub one_later : (i : ℕ) (xs : List Item) →
    from_start_so_many xs (pos (suc i)) (pos 1) ≡ take 1 (drop i xs)
unfolding from_start_so_many
one_later i xs =
    skip (λ p. not (int_lt p (pos (suc i))) && int_lt p (pos (suc i + 1))) i 1 xs
    (λ k l u. before_one (suc i) k (omega arith))
    ∙ taken (λ p. not (int_lt p (pos (suc i))) && int_lt p (pos (suc i + 1))) 1 (1 + i) (drop i xs)
    (λ k l u. at_one (suc i) k (omega arith) (omega arith)) (λ k l. past_one (suc i) k (omega arith))
