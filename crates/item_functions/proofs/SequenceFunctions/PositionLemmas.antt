-- The items at the positions that pass are parts of the sequence.
use Rattle.std.proofs.Common.{◌≡◌, ℕ, zero, suc, ◌+◌, ◌-◌, ◌<◌, ◌≤◌, Bool, true, false, not, ◌&&◌, List, [], ◌∷◌, ◌++◌, length, take, drop, if◌then◌else◌, refl, ap, ap₂, sym, ◌∙◌, arith, length-drop}
use Rattle.std.specs.Prelude.{nat_eq, nat_le, nat_lt, min, max, ℤ, pos, negsuc, ◌+ℤ◌, int_lt}
use Rattle.std.specs.Ordering.{int_eq}
use Rattle.std.proofs.lemmas.Int.{ints}
use Rattle.std.proofs.lemmas.Bool.{leb-true, leb-false, le-leb, ltb-true, ltb-false, eqb-true, eqb-false}
use Rattle.std.proofs.lemmas.List.{take_all}
use Rattle.std.proofs.Math.ListN.{drop_of_length-le}
use Rattle.xdm_items.specs.declared.items.Item.{Item}
use Rattle.item_functions.specs.SequenceFunctions.Positions.{before, items_at, from_start, from_start_so_many, removed}
use Rattle.item_functions.proofs.SequenceFunctions.TestLemmas.{from_test, until_test, but_test, but_zero, but_less}

abbrev Items : Type 0
Items = List Item

drop_none : (n : ℕ) → drop {A = Item} n [] ≡ []
drop_none zero = refl
drop_none (suc n) = refl

pub take_none : (n : ℕ) → take {A = Item} n [] ≡ []
take_none zero = refl
take_none (suc n) = refl

all_pass : (test : ℤ → Bool) (n : ℕ) (items : Items) → ((k : ℕ) → n ≤ k → test (pos (suc k)) ≡ true) → items_at test (suc n) items ≡ items
all_pass test n [] h = refl
all_pass test n (x ∷ xs) h =
    ap (λ b. if b then x ∷ items_at test (suc (suc n)) xs else items_at test (suc (suc n)) xs) (h n (omega arith))
    ∙ ap (◌∷◌ x) (all_pass test (suc n) xs (λ k l. h k (omega arith)))

-- those from a place on
all_from : (test : ℤ → Bool) (low n : ℕ) (items : Items) → ((k : ℕ) → test (pos (suc k)) ≡ nat_le low k) → items_at test (suc n) items ≡ drop (low - n) items
all_from test low n [] h = sym (drop_none (low - n))
all_from test low n (x ∷ xs) h = by (nat_le low n) refl (all_from test low (suc n) xs h)
  where
    rest : Items
    rest = items_at test (suc (suc n)) xs

    by : (b : Bool) → nat_le low n ≡ b → rest ≡ drop (low - suc n) xs → items_at test (suc n) (x ∷ xs) ≡ drop (low - n) (x ∷ xs)
    by true e more =
        let le : low ≤ n = leb-true low n e in
        let here : low - n ≡ 0 = omega arith in
        let next : low - suc n ≡ 0 = omega arith in
        ap (λ b. if b then x ∷ rest else rest) (h n ∙ e) ∙ ap (◌∷◌ x) (more ∙ ap (λ m. drop m xs) next) ∙ sym (ap (λ m. drop m (x ∷ xs)) here)
    by false e more =
        let lt : n < low = leb-false low n e in
        let here : low - n ≡ suc (low - suc n) = omega arith in
        ap (λ b. if b then x ∷ rest else rest) (h n ∙ e) ∙ more ∙ sym (ap (λ m. drop m (x ∷ xs)) here)

-- those before a place
all_until : (test : ℤ → Bool) (high n : ℕ) (items : Items) → ((k : ℕ) → n ≤ k → test (pos (suc k)) ≡ nat_lt k high) → items_at test (suc n) items ≡ take (high - n) items
all_until test high n [] h = sym (take_none (high - n))
all_until test high n (x ∷ xs) h = by (nat_lt n high) refl (all_until test high (suc n) xs (λ k l. h k (omega arith)))
  where
    rest : Items
    rest = items_at test (suc (suc n)) xs

    by : (b : Bool) → nat_lt n high ≡ b → rest ≡ take (high - suc n) xs → items_at test (suc n) (x ∷ xs) ≡ take (high - n) (x ∷ xs)
    by true e more =
        let lt : n < high = ltb-true n high e in
        let here : high - n ≡ suc (high - suc n) = omega arith in
        ap (λ b. if b then x ∷ rest else rest) (h n (omega arith) ∙ e) ∙ ap (◌∷◌ x) more ∙ sym (ap (λ m. take m (x ∷ xs)) here)
    by false e more =
        let le : high ≤ n = ltb-false n high e in
        let here : high - n ≡ 0 = omega arith in
        let next : high - suc n ≡ 0 = omega arith in
        ap (λ b. if b then x ∷ rest else rest) (h n (omega arith) ∙ e) ∙ more ∙ ap (λ m. take m xs) next ∙ sym (ap (λ m. take m (x ∷ xs)) here)

-- those from a place on and before another
all_between : (first second : ℤ → Bool) (low high n : ℕ) (items : Items) → ((k : ℕ) → first (pos (suc k)) ≡ nat_le low k) → ((k : ℕ) → second (pos (suc k)) ≡ nat_lt k high)
    → items_at (λ p. first p && second p) (suc n) items ≡ take (high - max low n) (drop (low - n) items)
all_between first second low high n [] f s = sym (ap (take (high - max low n)) (drop_none (low - n)) ∙ take_none (high - max low n))
all_between first second low high n (x ∷ xs) f s = by (nat_le low n) refl (all_between first second low high (suc n) xs f s)
  where
    both : ℤ → Bool
    both = λ p. first p && second p

    by : (b : Bool) → nat_le low n ≡ b → items_at both (suc (suc n)) xs ≡ take (high - max low (suc n)) (drop (low - suc n) xs) → items_at both (suc n) (x ∷ xs) ≡ take (high - max low n) (drop (low - n) (x ∷ xs))
    by true e more =
        let le : low ≤ n = leb-true low n e in
        let here : low - n ≡ 0 = omega arith in
        let count : high - max low n ≡ high - n = omega arith in
        all_until both high n (x ∷ xs) (λ k l. ap (λ b. b && second (pos (suc k))) (f k ∙ le-leb low k (omega arith)) ∙ s k)
        ∙ sym (ap₂ (λ c m. take c (drop m (x ∷ xs))) count here)
    by false e more =
        let lt : n < low = leb-false low n e in
        let here : low - n ≡ suc (low - suc n) = omega arith in
        let count : high - max low n ≡ high - max low (suc n) = omega arith in
        ap (λ b. if b && second (pos (suc n)) then x ∷ items_at both (suc (suc n)) xs else items_at both (suc (suc n)) xs) (f n ∙ e)
        ∙ more
        ∙ sym (ap₂ (λ c m. take c (drop m (x ∷ xs))) count here)

-- all but the one at a place
all_but : (test : ℤ → Bool) (m n : ℕ) (items : Items) → ((k : ℕ) → test (pos (suc k)) ≡ not (nat_eq k m)) → n ≤ m → items_at test (suc n) items ≡ take (m - n) items ++ drop (suc m - n) items
all_but test m n [] h le = sym (ap₂ (λ a b. a ++ b) (take_none (m - n)) (drop_none (suc m - n)))
all_but test m n (x ∷ xs) h le = by (nat_eq n m) refl (λ l. all_but test m (suc n) xs h l)
  where
    rest : Items
    rest = items_at test (suc (suc n)) xs

    apart : (k : ℕ) → m < k → test (pos (suc k)) ≡ true
    apart k l = h k ∙ differ (nat_eq k m) refl
      where
        differ : (b : Bool) → nat_eq k m ≡ b → not b ≡ true
        differ true e = let same : k ≡ m = eqb-true k m e in absurd (omega arith)
        differ false e = refl

    by : (b : Bool) → nat_eq n m ≡ b → (suc n ≤ m → rest ≡ take (m - suc n) xs ++ drop (suc m - suc n) xs) → items_at test (suc n) (x ∷ xs) ≡ take (m - n) (x ∷ xs) ++ drop (suc m - n) (x ∷ xs)
    by true e more =
        let same : n ≡ m = eqb-true n m e in
        let here : m - n ≡ 0 = omega arith in
        let next : suc m - n ≡ 1 = omega arith in
        ap (λ b. if b then x ∷ rest else rest) (h n ∙ ap not e)
        ∙ all_pass test (suc n) xs (λ k l. apart k (omega arith))
        ∙ sym (ap₂ (λ a b. take a (x ∷ xs) ++ drop b (x ∷ xs)) here next)
    by false e more =
        let other : n < m = below (eqb-false n m e) in
        let here : m - n ≡ suc (m - suc n) = omega arith in
        let next : suc m - n ≡ suc (suc m - suc n) = omega arith in
        ap (λ b. if b then x ∷ rest else rest) (h n ∙ ap not e)
        ∙ ap (◌∷◌ x) (more (omega arith))
        ∙ sym (ap₂ (λ a b. take a (x ∷ xs) ++ drop b (x ∷ xs)) here next)
      where
        below : (n ≡ m → ⊥) → n < m
        below differ = omega (arith, differ)

drop_within : (n m : ℕ) (xs : Items) → m ≡ min n (length xs) → drop m xs ≡ drop n xs
drop_within n m xs e = by (nat_le n (length xs)) refl
  where
    by : (b : Bool) → nat_le n (length xs) ≡ b → drop m xs ≡ drop n xs
    by true t = let le : n ≤ length xs = leb-true n (length xs) t in let same : m ≡ n = omega arith in ap (λ k. drop k xs) same
    by false t =
        let lt : length xs < n = leb-false n (length xs) t in
        drop_of_length-le xs {i = m} (omega arith) ∙ sym (drop_of_length-le xs {i = n} (omega arith))

take_within : (n m : ℕ) (xs : Items) → m ≡ min n (length xs) → take m xs ≡ take n xs
take_within n m xs e = by (nat_le n (length xs)) refl
  where
    by : (b : Bool) → nat_le n (length xs) ≡ b → take m xs ≡ take n xs
    by true t = let le : n ≤ length xs = leb-true n (length xs) t in let same : m ≡ n = omega arith in ap (λ k. take k xs) same
    by false t =
        let lt : length xs < n = leb-false n (length xs) t in
        take_all m xs (omega arith) ∙ sym (take_all n xs (omega arith))

no_less : (n : ℕ) → n - 0 ≡ n
no_less n = omega arith

pub from_place : (items : Items) (start : ℤ) (first : ℕ) → first ≡ min (before start) (length items) → drop first items ≡ from_start items start
unfolding from_start
from_place items start first e =
    drop_within (before start) first items e ∙ ap (λ m. drop m items) (sym (no_less (before start))) ∙ sym (all_from (λ p. not (int_lt p start)) (before start) 0 items (from_test start))

so_many : (items : Items) (start long : ℤ) → from_start_so_many items start long ≡ take (before (start +ℤ long) - before start) (drop (before start) items)
unfolding from_start_so_many
so_many items start long =
    let low : max (before start) 0 ≡ before start = omega arith in
    all_between (λ p. not (int_lt p start)) (λ p. int_lt p (start +ℤ long)) (before start) (before (start +ℤ long)) 0 items (from_test start) (until_test (start +ℤ long))
    ∙ ap₂ (λ l m. take (before (start +ℤ long) - l) (drop m items)) low (no_less (before start))

pub part : (items : Items) (start long : ℤ) (first stop : ℕ) → first ≡ min (before start) (length items) → stop ≡ min (before (start +ℤ long)) (length items) → first < stop
    → take (stop - first) (drop first items) ≡ from_start_so_many items start long
part items start long first stop f s lt =
    let low : before start ≡ first = omega arith in
    let left = length-drop first items in
    let end : stop - first ≡ min (before (start +ℤ long) - first) (length (drop first items)) = omega arith in
    take_within (before (start +ℤ long) - first) (stop - first) (drop first items) end
    ∙ ap (λ l. take (before (start +ℤ long) - l) (drop l items)) (sym low)
    ∙ sym (so_many items start long)

pub no_part : (items : Items) (start long : ℤ) (first stop : ℕ) → first ≡ min (before start) (length items) → stop ≡ min (before (start +ℤ long)) (length items) → stop ≤ first
    → [] ≡ from_start_so_many items start long
no_part items start long first stop f s le = sym (so_many items start long ∙ by (nat_le (before (start +ℤ long)) (before start)) refl)
  where
    by : (b : Bool) → nat_le (before (start +ℤ long)) (before start) ≡ b → take (before (start +ℤ long) - before start) (drop (before start) items) ≡ []
    by true t =
        let low : before (start +ℤ long) ≤ before start = leb-true (before (start +ℤ long)) (before start) t in
        let none : before (start +ℤ long) - before start ≡ 0 = omega arith in
        ap (λ m. take m (drop (before start) items)) none
    by false t =
        let high : before start < before (start +ℤ long) = leb-false (before (start +ℤ long)) (before start) t in
        ap (take (before (start +ℤ long) - before start)) (drop_of_length-le items {i = before start} (omega arith)) ∙ take_none (before (start +ℤ long) - before start)

abbrev other : ℤ → ℤ → Bool
other position p = not (int_eq p position)

without_at : (items : Items) (position : ℤ) → take (before position) items ++ drop (before (position +ℤ pos 1)) items ≡ removed items position
unfolding removed
without_at items (pos zero) = sym (all_pass (other (pos zero)) 0 items (λ k l. but_zero k))
without_at items (pos (suc m)) =
    let here : suc m + 1 ≡ suc (suc m) = omega arith in
    ap (λ n. take m items ++ drop (before (pos n)) items) here
    ∙ sym (all_but (other (pos (suc m))) m 0 items (but_test m) (omega arith) ∙ ap₂ (λ a b. take a items ++ drop b items) (no_less m) (no_less (suc m)))
without_at items (negsuc zero) = sym (all_pass (other (negsuc zero)) 0 items (λ k l. but_less zero k))
without_at items (negsuc (suc m)) =
    let below : negsuc (suc m) +ℤ pos 1 ≡ negsuc m = omega (arith, ints) in
    ap (λ z. drop (before z) items) below ∙ sym (all_pass (other (negsuc (suc m))) 0 items (λ k l. but_less (suc m) k))

pub without : (items : Items) (position : ℤ) (first next : ℕ) → first ≡ min (before position) (length items) → next ≡ min (before (position +ℤ pos 1)) (length items)
    → (take first items ++ []) ++ drop next items ≡ removed items position
without items position first next f n =
    ap₂ (λ a b. (a ++ []) ++ b) (take_within (before position) first items f) (drop_within (before (position +ℤ pos 1)) next items n)
    ∙ ap (λ a. a ++ drop (before (position +ℤ pos 1)) items) (append_none (take (before position) items))
    ∙ without_at items position
  where
    append_none : (xs : Items) → xs ++ [] ≡ xs
    append_none [] = refl
    append_none (x ∷ xs) = ap (◌∷◌ x) (append_none xs)
