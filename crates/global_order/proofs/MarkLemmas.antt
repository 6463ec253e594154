-- Marks on what is done.
use Rattle.std.proofs.Common.{◌≡◌, ◌∙◌, ap, sym, refl, ℕ, zero, suc, ◌+◌, ◌-◌, ◌<◌, ◌≤◌, List, [], ◌∷◌, ◌++◌, Bool, true, false, Some, None, length, nat_eq, get_or, set, arith}
use Rattle.std.proofs.Math.Nat.{eq-or-lt_of_le}
use mathlib.Core.Logic.{⊎_elim}
use Rattle.std.proofs.lemmas.Bool.{cases_lt}
use Rattle.std.proofs.lemmas.Bool.Decides.{nat_tests}
use Rattle.std.specs.List.{list_all}
use Rattle.std.proofs.lemmas.List.{get_or-set_same, get_or-set_other}
use Rattle.global_order.specs.Order.{Graph, needs_of, is_in, is_ready, is_next, next_of, next}
use Rattle.global_order.specs.Marks.{marked, are_marked, is_next_marked, next_marked_of}
use Rattle.global_order.proofs.OrderLemmas.{is_in-more, nat_eq-same}
use Rattle.std.proofs.Math.Bool.{or-true, or-false}
use Rattle.global_order.proofs.GraphOrders.Tests.{no_true}

-- the marks are on what is done
abbrev pub Marks : List Bool → List ℕ → Type 0
Marks marks done = (i : ℕ) → marked marks i ≡ is_in done i

pub all_same : (f h : ℕ → Bool) (xs : List ℕ) → ((i : ℕ) → f i ≡ h i) → list_all f xs ≡ list_all h xs
all_same f h [] e = refl
all_same f h (x ∷ xs) e = rw (e x, all_same f h xs e) refl

is_next-marks : (g : Graph) (marks : List Bool) (done : List ℕ) (i : ℕ) → Marks marks done → is_next_marked g marks i ≡ is_next g done i
unfolding is_next_marked are_marked is_next is_ready
is_next-marks g marks done i m =
    rw (m i, all_same (marked marks) (is_in done) (needs_of g i) m) refl

next_of-marks : (k i : ℕ) (g : Graph) (marks : List Bool) (done : List ℕ) → Marks marks done → next_marked_of k i g marks ≡ next_of k i g done
next_of-marks zero i g marks done m = refl
next_of-marks (suc k) i g marks done m = rw (is_next-marks g marks done i m, next_of-marks k (suc i) g marks done m) refl

-- what is done is not next
pub done-not_next : (g : Graph) (done : List ℕ) (i : ℕ) → is_in done i ≡ true → is_next g done i ≡ false
unfolding is_next
done-not_next g done i e = rw e refl

skip : (k i from : ℕ) (g : Graph) (done : List ℕ) → i ≤ from → from ≤ i + k → ((j : ℕ) → i ≤ j → j < from → is_in done j ≡ true)
    → next_of k i g done ≡ next_of (i + k - from) from g done
skip zero i from g done a b h =
    let e : from ≡ i = omega (arith, a, b) in
    let n : i + 0 - from ≡ 0 = omega (arith, a, b) in
    rw n refl
skip (suc k) i from g done a b h = ⊎_elim
    (λ same. (let n : i + suc k - from ≡ suc k = omega (arith, same) in rw (n, ← same) refl))
    (λ less. (let no = done-not_next g done i (h i (omega arith) less) in
    let ih = skip k (suc i) from g done (omega (arith, less)) (omega (arith, b)) (λ j x y. h j (omega (arith, x)) y) in
    let n : suc i + k - from ≡ i + suc k - from = omega arith in
    rw no (rw n at ih)))
    (eq-or-lt_of_le a)

pub next-from : (from : ℕ) (g : Graph) (marks : List Bool) (done : List ℕ) → Marks marks done → from ≤ length g → ((j : ℕ) → j < from → is_in done j ≡ true)
    → next_marked_of (length g - from) from g marks ≡ next g done
next-from from g marks done m le h =
    let s = skip (length g) 0 from g done (omega arith) (omega (arith, le)) (λ j x y. h j y) in
    let n : 0 + length g - from ≡ length g - from = omega arith in
    next_of-marks (length g - from) from g marks done m ∙ sym (rw n at s)

-- one turn of the search
pub marked-step : (n i : ℕ) (g : Graph) (marks : List Bool) → i < n → is_next_marked g marks i ≡ false → next_marked_of (n - i) i g marks ≡ next_marked_of (n - (i + 1)) (i + 1) g marks
marked-step n i g marks less e =
    let k : n - i ≡ suc (n - (i + 1)) = omega (arith, less) in
    let j : suc i ≡ i + 1 = omega arith in
    rw (k, e) (ap (λ m. next_marked_of (n - (i + 1)) m g marks) j)

pub marked-here : (n i : ℕ) (g : Graph) (marks : List Bool) → i < n → is_next_marked g marks i ≡ true → next_marked_of (n - i) i g marks ≡ Some i
marked-here n i g marks less e = let k : n - i ≡ suc (n - (i + 1)) = omega (arith, less) in rw (k, e) refl

pub marked-over : (n i : ℕ) (g : Graph) (marks : List Bool) → n ≤ i → next_marked_of (n - i) i g marks ≡ None
marked-over n i g marks le = let k : n - i ≡ 0 = omega (arith, le) in rw k refl

pub ruleset turns = (marked-step, marked-here, marked-over)

-- a mark on one more

mark_here : (marks : List Bool) (done : List ℕ) (p i : ℕ) → p < length marks → nat_eq p i ≡ true → marked (set marks p true) i ≡ is_in (done ++ p ∷ []) i
unfolding marked
mark_here marks done p i h e =
    let s : p ≡ i = grind (arith, nat_tests, e) in
    let at : get_or (set marks p true) i false ≡ true = rw (← s) (get_or-set_same marks p true false h) in
    rw (is_in-more done p i, e) (at ∙ sym (or-true (is_in done i)))

mark_else : (marks : List Bool) (done : List ℕ) (p i : ℕ) → Marks marks done → nat_eq p i ≡ false → marked (set marks p true) i ≡ is_in (done ++ p ∷ []) i
unfolding marked
mark_else marks done p i m e =
    let n : i ≡ p → ⊥ = λ s. (let f : nat_eq p p ≡ false = rw s at e in no_true (sym (nat_eq-same p) ∙ f)) in
    rw (is_in-more done p i, e) (get_or-set_other marks p i true false n ∙ m i ∙ sym (or-false (is_in done i)))

pub set_marks : (marks : List Bool) (done : List ℕ) (p : ℕ) → Marks marks done → p < length marks → Marks (set marks p true) (done ++ p ∷ [])
set_marks marks done p m h i =
    let P : Bool → Type 0 = λ b. nat_eq p i ≡ b → marked (set marks p true) i ≡ is_in (done ++ p ∷ []) i in
    let f : P (nat_eq p i) = elim (nat_eq p i) as P [
      | true ↦ λ e. mark_here marks done p i h e
      | false ↦ λ e. mark_else marks done p i m e
    ] in
    f refl

in_more : (done : List ℕ) (p j : ℕ) → is_in done j ≡ true → is_in (done ++ p ∷ []) j ≡ true
in_more done p j e = rw (is_in-more done p j, e) refl

pub before_more : (new : List Bool) (done : List ℕ) (p from to : ℕ) → Marks new (done ++ p ∷ []) → ((j : ℕ) → j < from → is_in done j ≡ true)
    → ((i : ℕ) → from ≤ i → i < to → marked new i ≡ true) → (j : ℕ) → j < to → is_in (done ++ p ∷ []) j ≡ true
before_more new done p from to m h k j l = ⊎_elim
    (λ less. in_more done p j (h j less))
    (λ ge. sym (m j) ∙ k j ge l)
    (cases_lt j from)

pub nothing_marked : (i : ℕ) → marked [] i ≡ false
unfolding marked
nothing_marked i = refl

pub nothing_done : (i : ℕ) → is_in [] i ≡ false
unfolding is_in
nothing_done i = refl

-- one more place without a mark
no_item_more : (marks : List Bool) (i : ℕ) → ((j : ℕ) → get_or marks j false ≡ false) → get_or (marks ++ false ∷ []) i false ≡ false
no_item_more [] zero h = refl
no_item_more [] (suc i) h = refl
no_item_more (m ∷ marks) zero h = h 0
no_item_more (m ∷ marks) (suc i) h = no_item_more marks i (λ j. h (suc j))

pub no_mark_more : (marks : List Bool) (i : ℕ) → ((j : ℕ) → marked marks j ≡ false) → marked (marks ++ false ∷ []) i ≡ false
unfolding marked
no_mark_more marks i h = no_item_more marks i h

-- one more place with a mark
pub marked_more : (marks : List Bool) (from place i : ℕ) → ((j : ℕ) → from ≤ j → j < place → marked marks j ≡ true) → marked marks place ≡ true
    → from ≤ i → i < place + 1 → marked marks i ≡ true
marked_more marks from place i h e a b = ⊎_elim
    (λ less. h i a less)
    (λ ge. (let same : i ≡ place = omega (arith, b, ge) in rw same e))
    (cases_lt i place)
