-- Groups of items that stand together: those of a start and of the places after it up to the next are
-- what `subsequence` gives.
use Rattle.std.proofs.Common.{◌≡◌, ◌+◌, ◌<◌, ◌≤◌, ℕ, zero, suc, List, [], ◌∷◌, refl, ap, ◌∙◌, take, drop, arith}
use Rattle.std.proofs.lemmas.Bool.Decides.{nat_tests}
use Rattle.std.specs.Prelude.{Bool, true, false, not, ◌&&◌, Some, None, ℤ, pos, int_lt, slice_get, if◌then◌else◌}
use Rattle.xdm_items.specs.declared.items.Item.{Item}
use Rattle.order_group.specs.Groups.{Mark, places_before}
use Rattle.item_functions.specs.SequenceFunctions.Positions.{from_start_so_many, items_at as items_where}
use Rattle.transform_meaning.specs.Grouping.{items_at}
use Rattle.lockstep_loops.proofs.GroupRows.{Stands}
use Rattle.item_functions.proofs.SequenceFunctions.PositionLemmas.{take_none}

-- how many places come before the next that begins a group
abbrev pub run_of : List Mark → ℕ
run_of [] = 0
run_of (m ∷ ms) = if m.begins then 0 else suc (run_of ms)

stands_behind : (all : List Item) (n : ℕ) (x : Item) (xs : List Item) → Stands all n (x ∷ xs) →
    Stands all (suc n) xs
stands_behind all n x xs h i m e = h (suc i) m (omega (arith, e))

none_behind : (all : List Item) (n : ℕ) → Stands all n [] → Stands all (suc n) []
none_behind all n h i m e = h (suc i) m (omega (arith, e))

pub run_taken : (all xs : List Item) (n : ℕ) (ms : List Mark) → Stands all n xs →
    items_at all (places_before n ms) ≡ take (run_of ms) xs
run_taken all xs n [] h = refl
run_taken all [] n (m ∷ ms) h =
    by m.begins (h 0 n (omega arith)) (run_taken all [] (suc n) ms (none_behind all n h) ∙ take_none (run_of ms))
  where
    by : (b : Bool) → slice_get all n ≡ None → items_at all (places_before (suc n) ms) ≡ [] →
        items_at all (if b then [] else n ∷ places_before (suc n) ms) ≡ take (if b then 0 else suc (run_of ms)) []
    by true e more = refl
    by false e more = rw (e, more) refl
run_taken all (x ∷ xs) n (m ∷ ms) h =
    by m.begins (h 0 n (omega arith)) (run_taken all xs (suc n) ms (stands_behind all n x xs h))
  where
    by : (b : Bool) → slice_get all n ≡ Some x →
        items_at all (places_before (suc n) ms) ≡ take (run_of ms) xs →
        items_at all (if b then [] else n ∷ places_before (suc n) ms)
        ≡ take (if b then 0 else suc (run_of ms)) (x ∷ xs)
    by true e more = refl
    by false e more = rw (e, more) refl

-- the items of a start and of those after it
pub group_taken : (all : List Item) (x : Item) (xs : List Item) (n : ℕ) (ms : List Mark) →
    Stands all n (x ∷ xs) →
    items_at all (n ∷ places_before (suc n) ms) ≡ take (suc (run_of ms)) (x ∷ xs)
group_taken all x xs n ms h =
    rw (h 0 n (omega arith), run_taken all xs (suc n) ms (stands_behind all n x xs h)) refl

-- items at positions between two
pass_over : (t : ℤ → Bool) (j n : ℕ) (xs : List Item) →
    ((k : ℕ) → n ≤ k → k < n + j → t (pos k) ≡ false) →
    items_where t n xs ≡ items_where t (n + j) (drop j xs)
pass_over t zero n xs h = ap (λ m. items_where t m xs) (omega arith)
pass_over t (suc j) n [] h = refl
pass_over t (suc j) n (x ∷ xs) h =
    ap (λ c. if c then x ∷ items_where t (suc n) xs else items_where t (suc n) xs)
    (h n (omega arith) (omega arith))
    ∙ pass_over t j (suc n) xs (λ k l u. h k (omega (arith, l)) (omega (arith, u)))
    ∙ ap (λ m. items_where t m (drop j xs)) (omega arith)

none_pass : (t : ℤ → Bool) (n : ℕ) (xs : List Item) → ((k : ℕ) → n ≤ k → t (pos k) ≡ false) →
    items_where t n xs ≡ []
none_pass t n [] h = refl
none_pass t n (x ∷ xs) h =
    ap (λ c. if c then x ∷ items_where t (suc n) xs else items_where t (suc n) xs) (h n (omega arith))
    ∙ none_pass t (suc n) xs (λ k l. h k (omega (arith, l)))

so_many : (t : ℤ → Bool) (l n : ℕ) (xs : List Item) →
    ((k : ℕ) → n ≤ k → k < n + l → t (pos k) ≡ true) → ((k : ℕ) → n + l ≤ k → t (pos k) ≡ false) →
    items_where t n xs ≡ take l xs
so_many t zero n xs h g = none_pass t n xs (λ k l. g k (omega (arith, l)))
so_many t (suc l) n [] h g = refl
so_many t (suc l) n (x ∷ xs) h g =
    ap (λ c. if c then x ∷ items_where t (suc n) xs else items_where t (suc n) xs)
    (h n (omega arith) (omega arith))
    ∙ ap (λ ys. x ∷ ys) (so_many t l (suc n) xs (λ k d u. h k (omega (arith, d)) (omega (arith, u)))
    (λ k d. g k (omega (arith, d))))

before : (n l k : ℕ) → k < 1 + n → (not (int_lt (pos k) (pos (suc n))) && int_lt (pos k) (pos (suc n + l))) ≡ false
before n l k h = grind (arith, nat_tests)

within : (n l k : ℕ) → 1 + n ≤ k → k < 1 + n + l →
    (not (int_lt (pos k) (pos (suc n))) && int_lt (pos k) (pos (suc n + l))) ≡ true
within n l k h g = grind (arith, nat_tests)

beyond : (n l k : ℕ) → 1 + n + l ≤ k →
    (not (int_lt (pos k) (pos (suc n))) && int_lt (pos k) (pos (suc n + l))) ≡ false
beyond n l k h = grind (arith, nat_tests)

-- `subsequence($items, $start, $length)`
pub window : (n l : ℕ) (xs : List Item) → from_start_so_many xs (pos (suc n)) (pos l) ≡ take l (drop n xs)
unfolding from_start_so_many
window n l xs =
    pass_over (λ p. not (int_lt p (pos (suc n))) && int_lt p (pos (suc n + l))) n 1 xs
    (λ k d u. before n l k u)
    ∙ so_many (λ p. not (int_lt p (pos (suc n))) && int_lt p (pos (suc n + l))) l (1 + n) (drop n xs)
    (λ k d u. within n l k d u) (λ k d. beyond n l k d)
