-- What tests say, and what lists of tests do.
use Rattle.std.proofs.Common.{◌≡◌, ◌∙◌, sym, refl, ap, ℕ, zero, suc, ◌+◌, ◌-◌, ◌<◌, ◌≤◌, List, [], ◌∷◌, Bool, true, false}
use Rattle.std.proofs.Common.{not, ◌&&◌, ◌||◌, nat_eq, nat_lt, length, arith}
use Rattle.std.proofs.Math.Nat.{eq-or-lt_of_le}
use mathlib.Core.Logic.{⊎_elim}
use Rattle.std.proofs.lemmas.Bool.{and_parts}
use Rattle.std.proofs.lemmas.Bool.Decides.{nat_tests}
use Rattle.std.specs.List.{list_any, list_all}
use Rattle.global_order.specs.ReachedPlaces.Walks.{has}
use Rattle.global_order.proofs.ReachedPlaces.WalkLemmas.{same_place, nat_eq-same}
use Rattle.global_order.specs.GraphOrders.Checks.{all_from}
use Rattle.xt_names.proofs.BoolLemmas.{and_both as both}

pub no_true : true ≡ false → ⊥
no_true e = cc

pub is_less : (a b : ℕ) → nat_lt a b ≡ true → a < b
is_less a b e = grind (arith, nat_tests, e)

pub test_less : (a b : ℕ) → a < b → nat_lt a b ≡ true
test_less a b h = grind (arith, nat_tests, h)

pub test_not_less : (a b : ℕ) → b ≤ a → nat_lt a b ≡ false
test_not_less a b h = grind (arith, nat_tests, h)

pub is_not_less : (a b : ℕ) → not (nat_lt a b) ≡ true → b ≤ a
is_not_less a b =
    let P : Bool → Type 0 = λ t. nat_lt a b ≡ t → not t ≡ true → b ≤ a in
    let go : P (nat_lt a b) = elim (nat_lt a b) as P [
      | true ↦ λ e h. absurd (no_true (sym h))
      | false ↦ λ e h. grind (arith, nat_tests, e)
    ] in
    go refl

-- one of a list, and the others
pub of_cons : {Y : Type 0} (x i : ℕ) (xs : List ℕ) → has (x ∷ xs) i ≡ true → (i ≡ x → Y) → (has xs i ≡ true → Y) → Y
of_cons {Y} x i xs h first other =
    let P : Bool → Type 0 = λ b. nat_eq i x ≡ b → (b || has xs i) ≡ true → Y in
    let go : P (nat_eq i x) = elim (nat_eq i x) as P [
      | true ↦ λ e k. first (same_place i x e)
      | false ↦ λ e k. other k
    ] in
    go refl h

-- what all of a list pass each passes
pub each_passes : (f : ℕ → Bool) (xs : List ℕ) (i : ℕ) → list_all f xs ≡ true → has xs i ≡ true → f i ≡ true
each_passes f [] i h e = absurd (no_true (sym e))
each_passes f (x ∷ xs) i h e =
    let t = and_parts (f x) (list_all f xs) h in
    of_cons x i xs e (λ same. ap f same ∙ t.0) (λ k. each_passes f xs i t.1 k)

pub head_has : (x : ℕ) (xs : List ℕ) → has (x ∷ xs) x ≡ true
head_has x xs = rw (nat_eq-same x) refl

pub tail_has : (x i : ℕ) (xs : List ℕ) → has xs i ≡ true → has (x ∷ xs) i ≡ true
tail_has x i xs e = rw e (elim (nat_eq i x) as (λ b. (b || true) ≡ true) [ true ↦ refl | false ↦ refl ])

-- all pass where each does
pub all_pass : (f : ℕ → Bool) (xs : List ℕ) → ((i : ℕ) → has xs i ≡ true → f i ≡ true) → list_all f xs ≡ true
all_pass f [] h = refl
all_pass f (x ∷ xs) h =
    both (f x) (list_all f xs) (h x (head_has x xs)) (all_pass f xs (λ i e. h i (tail_has x i xs e)))

fails_both : (a b : Bool) → b ≡ false → (a && b) ≡ false
fails_both true b e = e
fails_both false b e = refl

fails_first : (a b : Bool) → a ≡ false → (a && b) ≡ false
fails_first true b e = absurd (no_true e)
fails_first false b e = refl

-- not all pass where one does not
pub one_fails : (f : ℕ → Bool) (xs : List ℕ) (i : ℕ) → has xs i ≡ true → f i ≡ false → list_all f xs ≡ false
one_fails f [] i e h = absurd (no_true (sym e))
one_fails f (x ∷ xs) i e h =
    of_cons x i xs e
    (λ same. fails_first (f x) (list_all f xs) (ap f (sym same) ∙ h))
    (λ k. fails_both (f x) (list_all f xs) (one_fails f xs i k h))

-- where one of a list passes
pub record Passing (f : ℕ → Bool) (xs : List ℕ) : Type 0 where
  pub one : ℕ
  pub there : has xs one ≡ true
  pub passes : f one ≡ true

pub some_passes : (f : ℕ → Bool) (xs : List ℕ) → list_any f xs ≡ true → Passing f xs
some_passes f [] h = absurd (no_true (sym h))
some_passes f (x ∷ xs) h =
    let P : Bool → Type 0 = λ b. f x ≡ b → (b || list_any f xs) ≡ true → Passing f (x ∷ xs) in
    let go : P (f x) = elim (f x) as P [
      | true ↦ λ e k. record { one = x; there = head_has x xs; passes = e }
      | false ↦ λ e k. (let r = some_passes f xs k in
          record { one = r.one; there = tail_has x r.one xs r.there; passes = r.passes })
    ] in
    go refl h

-- what so many numbers pass each passes
pub each_from : (k i j : ℕ) (f : ℕ → Bool) → all_from k i f ≡ true → i ≤ j → j < i + k → f j ≡ true
each_from zero i j f h a b = absurd (omega (arith, a, b))
each_from (suc k) i j f h a b =
    let t = and_parts (f i) (all_from k (suc i) f) h in
    ⊎_elim
    (λ same. ap f (sym same) ∙ t.0)
    (λ less. each_from k (suc i) j f t.1 less (omega (arith, b)))
    (eq-or-lt_of_le a)

-- one turn of the tests
pub tests_more : (n i : ℕ) (f : ℕ → Bool) → i < n → f i ≡ true → all_from (n - i) i f ≡ all_from (n - (i + 1)) (i + 1) f
tests_more n i f less e =
    let k : n - i ≡ suc (n - (i + 1)) = omega (arith, less) in
    let j : suc i ≡ i + 1 = omega arith in
    rw (k, e, ← j) refl

pub tests_stop : (n i : ℕ) (f : ℕ → Bool) → i < n → f i ≡ false → all_from (n - i) i f ≡ false
tests_stop n i f less e =
    let k : n - i ≡ suc (n - (i + 1)) = omega (arith, less) in
    rw (k, e) refl

pub tests_over : (n i : ℕ) (f : ℕ → Bool) → n ≤ i → all_from (n - i) i f ≡ true
tests_over n i f le = let k : n - i ≡ 0 = omega (arith, le) in rw k refl

pub ruleset turns = (tests_more, tests_stop, tests_over)
