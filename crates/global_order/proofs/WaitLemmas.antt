-- The first of those that are ready is next, where each other waits for one that is not done.
use Rattle.std.proofs.Common.{◌≡◌, ◌∙◌, ap, sym, refl, ℕ, zero, suc, ◌+◌, ◌-◌, ◌<◌, ◌≤◌, List, [], ◌∷◌, ◌++◌, Bool, true, false, not, ◌&&◌, ◌||◌, if◌then◌else◌, Option, Some, None, length, nat_eq, nat_lt, get_or, set, take, drop, arith}
use Rattle.std.proofs.Math.Nat.{eq-or-lt_of_le}
use mathlib.Core.Logic.{⊎_elim}
use Rattle.std.proofs.lemmas.Bool.{cases_lt, false_from_ne_true}
use Rattle.std.proofs.lemmas.Bool.Decides.{nat_tests}
use Rattle.std.specs.Prelude.{⊤, Result, Ok, Err, OnOk}
use Rattle.std.specs.List.{All, list_all}
use Rattle.std.specs.List.Sorted.{IsPermutation}
use Rattle.std.specs.Ordering.{nat_cmp}
use Rattle.std.specs.BinaryHeap.{IsUpperBound}
use Rattle.std.proofs.lemmas.List.{get_or-set_same, get_or-set_other, length-set, take_more, drop_all}
use Rattle.xt_names.proofs.ListLemmas.{drop_at}
use Rattle.std.proofs.lemmas.List.Elements.{All-head, All-tail}
use Rattle.std.proofs.lemmas.List.Folds.{list_any-append}
use Rattle.std.proofs.lemmas.List.Sorted.{list_any-IsPermutation, le_from_greatest}
use Rattle.global_order.specs.Order.{Graph, needs_of, is_in, is_ready, is_next, next_of, next, step, steps, order_of}
use Rattle.global_order.specs.Marks.{marked, are_marked, next_marked_of}
use Rattle.global_order.specs.Waits.{has, IsInHeap, Opens, with_waiting, IsWaiting, IsGood, IsGoodBut}
use Rattle.global_order.proofs.OrderLemmas.{next-inside, undone, undone-all, some-positive, is_in-more, nat_eq-same}
use Rattle.global_order.proofs.MarkLemmas.{set_marks, next-from, done-not_next, all_same, nothing_done}
use Rattle.global_order.proofs.ReachedPlaces.WalkLemmas.{same_place}
use Rattle.xt_names.proofs.BoolLemmas.{neither}
use Rattle.global_order.proofs.GraphOrders.Tests.{no_true}

-- more steps than there are globals not done change nothing
enough : (k j : ℕ) (g : Graph) (done : List ℕ) → undone (length g) done ≤ k → undone (length g) done ≤ j
    → steps k g done ≡ steps j g done
unfolding step
enough zero zero g done a b = refl
enough zero (suc j) g done a b =
    let P : Option ℕ → Type 0 = λ o. next g done ≡ o → done ≡ step (steps j g) done o in
    let f : P (next g done) = elim (next g done) as P [
      | None ↦ λ e. refl
      | Some i ↦ λ e. let less = some-positive g done i e in absurd (omega (arith, less, a))
    ] in
    f refl
enough (suc k) zero g done a b =
    let P : Option ℕ → Type 0 = λ o. next g done ≡ o → step (steps k g) done o ≡ done in
    let f : P (next g done) = elim (next g done) as P [
      | None ↦ λ e. refl
      | Some i ↦ λ e. let less = some-positive g done i e in absurd (omega (arith, less, b))
    ] in
    f refl
enough (suc k) (suc j) g done a b =
    let P : Option ℕ → Type 0 = λ o. next g done ≡ o → step (steps k g) done o ≡ step (steps j g) done o in
    let f : P (next g done) = elim (next g done) as P [
      | None ↦ λ e. refl
      | Some i ↦ λ e. (let less = some-positive g done i e in enough k j g (done ++ i ∷ []) (omega (arith, less, a)) (omega (arith, less, b)))
    ] in
    f refl

-- one step more, in the same number of steps
one_step : (n p : ℕ) (g : Graph) (done : List ℕ) → n ≡ length g → next g done ≡ Some p
    → steps n g done ≡ steps n g (done ++ p ∷ [])
unfolding step
one_step zero p g done e s = let inside = next-inside p g done s in absurd (omega (arith, inside, e))
one_step (suc n) p g done e s =
    let less = some-positive g done p s in
    let all = undone-all (length g) done in
    let k : undone (length g) (done ++ p ∷ []) ≤ n = omega (arith, less, all, e) in
    let here : steps (suc n) g done ≡ steps n g (done ++ p ∷ []) = rw s refl in
    here ∙ enough n (suc n) g (done ++ p ∷ []) k (omega (arith, k))

none_left : (n : ℕ) (g : Graph) (done : List ℕ) → next g done ≡ None → steps n g done ≡ done
unfolding step
none_left zero g done e = refl
none_left (suc n) g done e = rw e refl

pub ended : (g : Graph) (done : List ℕ) (marks : List Bool) (ready : List ℕ) (waiting : List (List ℕ))
    → IsGood g done marks ready waiting → next_marked_of (length g - 0) 0 g marks ≡ None → done ≡ order_of g
ended g done marks ready waiting good none =
    let e = next-from 0 g marks done good.marks_are (omega arith) (λ j h. absurd (omega (arith, h))) in
    sym (good.path ∙ none_left (length g) g done (sym e ∙ none))

-- the first that passes is the next
first_next : (k i p : ℕ) (g : Graph) (done : List ℕ) → i ≤ p → p < i + k → is_next g done p ≡ true
    → ((j : ℕ) → j < p → is_next g done j ≡ false) → next_of k i g done ≡ Some p
first_next zero i p g done a b is before = absurd (omega (arith, a, b))
first_next (suc k) i p g done a b is before = ⊎_elim
    (λ same. (let here : is_next g done i ≡ true = rw same is in rw here (ap Some same)))
    (λ less. rw (before i less) (first_next k (suc i) p g done less (omega (arith, b)) is before))
    (eq-or-lt_of_le a)

-- one that waits is not next
fails : (f : ℕ → Bool) (xs : List ℕ) (m : ℕ) → has xs m ≡ true → f m ≡ false → list_all f xs ≡ false
fails f [] m h e = absurd (no_true (sym h))
fails f (x ∷ xs) m h e =
    let P : Bool → Type 0 = λ b. nat_eq m x ≡ b → (b || has xs m) ≡ true → (f x && list_all f xs) ≡ false in
    let go : P (nat_eq m x) = elim (nat_eq m x) as P [
      | true ↦ λ s k. (let no : f x ≡ false = rw (← same_place m x s) e in rw no refl)
      | false ↦ λ s k. (let ih = fails f xs m k e in rw ih (and_false (f x)))
    ] in
    go refl h
  where
    and_false : (b : Bool) → (b && false) ≡ false
    and_false true = refl
    and_false false = refl

waits-not_next : (g : Graph) (done : List ℕ) (waiting : List (List ℕ)) (i : ℕ) → IsWaiting g done waiting i
    → is_next g done i ≡ false
unfolding is_next is_ready
waits-not_next g done waiting i w =
    let no = fails (is_in done) (needs_of g i) w.one w.needed w.undone in
    rw no (last_false (not (is_in done i)))
  where
    last_false : (b : Bool) → (b && false) ≡ false
    last_false true = refl
    last_false false = refl

not_before : (g : Graph) (done : List ℕ) (marks : List Bool) (ready : List ℕ) (waiting : List (List ℕ)) (p : ℕ)
    → IsGoodBut g done marks ready waiting p → p < length g → (j : ℕ) → j < p → is_next g done j ≡ false
not_before g done marks ready waiting p good inside j less =
    let P : Bool → Type 0 = λ b. is_in done j ≡ b → is_next g done j ≡ false in
    let f : P (is_in done j) = elim (is_in done j) as P [
      | true ↦ λ e. done-not_next g done j e
      | false ↦ λ e. waits-not_next g done waiting j (good.each j (omega (arith, less, inside)) e (good.before j less) (λ same. absurd (omega (arith, same, less))))
    ] in
    f refl

is_next_now : (g : Graph) (done : List ℕ) (marks : List Bool) (p : ℕ) → ((i : ℕ) → marked marks i ≡ is_in done i)
    → marked marks p ≡ false → are_marked marks (needs_of g p) ≡ true → is_next g done p ≡ true
unfolding is_next is_ready are_marked
is_next_now g done marks p m ready met =
    let new : is_in done p ≡ false = sym (m p) ∙ ready in
    let all : list_all (is_in done) (needs_of g p) ≡ true = sym (all_same (marked marks) (is_in done) (needs_of g p) m) ∙ met in
    rw (new, all) refl

-- the place is done already
pub is_done : (g : Graph) (done : List ℕ) (marks : List Bool) (ready : List ℕ) (waiting : List (List ℕ)) (p : ℕ)
    → IsGoodBut g done marks ready waiting p → marked marks p ≡ true → IsGood g done marks ready waiting
is_done g done marks ready waiting p good m = record {
  path = good.path;
  marks_are = good.marks_are;
  size = good.size;
  rows = good.rows;
  heap = good.heap;
  each = λ i inside un closed. good.each i inside un closed
      (λ same. (let yes : is_in done i ≡ true = rw same (sym (good.marks_are p) ∙ m) in no_true (sym yes ∙ un)));
}

-- the place waits
last_has : (xs : List ℕ) (i : ℕ) → has (xs ++ i ∷ []) i ≡ true
last_has xs i = list_any-append (nat_eq i) xs (i ∷ []) ∙ rw (nat_eq-same i) (or_true (has xs i))
  where
    or_true : (b : Bool) → (b || true) ≡ true
    or_true true = refl
    or_true false = refl

still_has : (xs ys : List ℕ) (i : ℕ) → has xs i ≡ true → has (xs ++ ys) i ≡ true
still_has xs ys i h = list_any-append (nat_eq i) xs ys ∙ rw h refl

rows_kept : (rows : List (List ℕ)) (need place one i : ℕ) → one < length rows → has (get_or rows one []) i ≡ true
    → has (get_or (with_waiting need place rows) one []) i ≡ true
rows_kept rows need place one i inside h =
    let more = get_or rows need [] ++ place ∷ [] in
    let P : Bool → Type 0 = λ b. has (get_or (if b then set rows need more else rows) one []) i ≡ true in
    let Q : Bool → Type 0 = λ b. nat_eq one need ≡ b → has (get_or (set rows need more) one []) i ≡ true in
    let go : Q (nat_eq one need) = elim (nat_eq one need) as Q [
      | true ↦ λ s.
          (let same = same_place one need s in
          let at : get_or (set rows need more) one [] ≡ more = rw same (get_or-set_same rows need more [] (rw same at inside)) in
          let old : has (get_or rows need []) i ≡ true = rw same at h in
          rw at (still_has (get_or rows need []) (place ∷ []) i old))
      | false ↦ λ s.
          (let other : one ≡ need → ⊥ = λ same. (let f : nat_eq need need ≡ false = rw same at s in no_true (sym (nat_eq-same need) ∙ f)) in
          rw (get_or-set_other rows need one more [] other) h)
    ] in
    elim (nat_lt need (length rows)) as P [ true ↦ go refl | false ↦ h ]

row_has : (rows : List (List ℕ)) (need place : ℕ) → need < length rows
    → has (get_or (with_waiting need place rows) need []) place ≡ true
row_has rows need place inside =
    let yes : nat_lt need (length rows) ≡ true = grind (arith, nat_tests, inside) in
    let more = get_or rows need [] ++ place ∷ [] in
    let at = get_or-set_same rows need more [] inside in
    rw yes (rw at (last_has (get_or rows need []) place))

rows_size : (rows : List (List ℕ)) (need place : ℕ) → length (with_waiting need place rows) ≡ length rows
rows_size rows need place =
    let more = get_or rows need [] ++ place ∷ [] in
    let P : Bool → Type 0 = λ b. length (if b then set rows need more else rows) ≡ length rows in
    elim (nat_lt need (length rows)) as P [ true ↦ length-set rows need more | false ↦ refl ]

waits_on : (g : Graph) (done : List ℕ) (waiting : List (List ℕ)) (need place i : ℕ) → length waiting ≡ length g
    → IsWaiting g done waiting i → IsWaiting g done (with_waiting need place waiting) i
waits_on g done waiting need place i e w = record {
  one = w.one;
  needed = w.needed;
  undone = w.undone;
  there = λ inside. rows_kept waiting need place w.one i (omega (arith, inside, e)) (w.there inside);
}

pub has_waited : (g : Graph) (done : List ℕ) (marks : List Bool) (ready : List ℕ) (waiting next_rows : List (List ℕ)) (p need : ℕ)
    → IsGoodBut g done marks ready waiting p → has (needs_of g p) need ≡ true → marked marks need ≡ false
    → next_rows ≡ with_waiting need p waiting → IsGood g done marks ready next_rows
has_waited g done marks ready waiting next_rows p need good needed un is = rw is (record {
  path = good.path;
  marks_are = good.marks_are;
  size = good.size;
  rows = rows_size waiting need p ∙ good.rows;
  heap = good.heap;
  each = λ i inside new closed.
      (let P : Bool → Type 0 = λ b. nat_eq i p ≡ b → IsWaiting g done (with_waiting need p waiting) i in
      let go : P (nat_eq i p) = elim (nat_eq i p) as P [
        | true ↦ λ s. rw (same_place i p s) (record {
          one = need;
          needed = needed;
          undone = sym (good.marks_are need) ∙ un;
          there = λ less. row_has waiting need p (omega (arith, less, good.rows));
        })
        | false ↦ λ s.
            (let other : i ≡ p → ⊥ = λ same. (let f : nat_eq p p ≡ false = rw same at s in no_true (sym (nat_eq-same p) ∙ f)) in
            waits_on g done waiting need p i good.rows (good.each i inside new closed other))
      ] in
      go refl);
})

gone : (old new : Bool) → (old ≡ true → new ≡ true) → new ≡ false → old ≡ false
gone true new f e = absurd (no_true (sym (f refl) ∙ e))
gone false new f e = refl

pub has_finished : (g : Graph) (done done_next : List ℕ) (marks marks_next : List Bool) (ready ready_next : List ℕ) (waiting waiting_next : List (List ℕ)) (p : ℕ)
    → p < length g → IsGoodBut g done marks ready waiting p → marked marks p ≡ false → are_marked marks (needs_of g p) ≡ true
    → done_next ≡ done ++ p ∷ [] → marks_next ≡ set marks p true
    → Opens (length g) ready (get_or waiting p []) ready_next → waiting_next ≡ waiting
    → IsGood g done_next marks_next ready_next waiting_next
has_finished g done done_next marks marks_next ready ready_next waiting waiting_next p inside good un met d m opens w =
    let is = is_next_now g done marks p good.marks_are un met in
    let now : next g done ≡ Some p = first_next (length g) 0 p g done (omega arith) (omega (arith, inside)) is (not_before g done marks ready waiting p good inside) in
    rw (d, m, w) (record {
      path = good.path ∙ one_step (length g) p g done refl now;
      marks_are = set_marks marks done p good.marks_are (omega (arith, inside, good.size));
      size = length-set marks p true ∙ good.size;
      rows = good.rows;
      heap = opens.heap;
      each = λ i within new closed.
          (let t = neither (is_in done i) (nat_eq p i) (sym (is_in-more done p i) ∙ new) in
          let was = gone (has ready (length g - i)) (has ready_next (length g - i)) (opens.kept (length g - i)) closed in
          let other : i ≡ p → ⊥ = λ same. (let f : nat_eq p p ≡ false = rw same at t.1 in no_true (sym (nat_eq-same p) ∙ f)) in
          let v = good.each i within t.0 was other in
          let P : Bool → Type 0 = λ b. nat_eq p v.one ≡ b → IsWaiting g (done ++ p ∷ []) waiting i in
          let go : P (nat_eq p v.one) = elim (nat_eq p v.one) as P [
            | true ↦ λ s.
                (let same = same_place p v.one s in
                let row : has (get_or waiting p []) i ≡ true = rw same (v.there (rw (← same) inside)) in
                absurd (no_true (sym (opens.more i row) ∙ closed)))
            | false ↦ λ s. record {
              one = v.one;
              needed = v.needed;
              undone = is_in-more done p v.one ∙ rw (v.undone, s) refl;
              there = v.there;
            }
          ] in
          go refl);
    })

-- the greatest is taken from the heap
at_most : (x : ℕ) (ys : List ℕ) → All (λ y. y ≤ x) ys → (k : ℕ) → has ys k ≡ true → k ≤ x
at_most x [] all k h = absurd (no_true (sym h))
at_most x (y ∷ ys) all k h =
    let P : Bool → Type 0 = λ b. nat_eq k y ≡ b → (b || has ys k) ≡ true → k ≤ x in
    let go : P (nat_eq k y) = elim (nat_eq k y) as P [
      | true ↦ λ s e. (let top : y ≤ x = All-head (λ z. z ≤ x) y ys all in rw (same_place k y s) top)
      | false ↦ λ s e. at_most x ys (All-tail (λ z. z ≤ x) y ys all) k e
    ] in
    go refl h

pub popped : (g : Graph) (done : List ℕ) (marks : List Bool) (ready ready_next : List ℕ) (waiting : List (List ℕ)) (x p : ℕ)
    → IsGood g done marks ready waiting → IsPermutation ready (x ∷ ready_next) → IsInHeap ready_next
    → IsUpperBound nat_cmp x ready_next → p ≡ length g - x → p < length g
    → IsGoodBut g done marks ready_next waiting p
popped g done marks ready ready_next waiting x p good perm heap top e inside = record {
  path = good.path;
  marks_are = good.marks_are;
  size = good.size;
  rows = good.rows;
  heap = heap;
  each = λ i within un closed other.
      good.each i within un
      (list_any-IsPermutation (nat_eq (length g - i)) ready (x ∷ ready_next) perm
      ∙ rw (
        closed,
        false_from_ne_true (nat_eq (length g - i) x)
            (λ s. (let same = same_place (length g - i) x s in other (omega (arith, same, within, e)))),
      ) refl);
  before = λ j less. false_from_ne_true (has ready_next (length g - j))
      (λ h. (let low = at_most x ready_next (le_from_greatest x ready_next top) (length g - j) h in
      absurd (omega (arith, low, less, e, inside))));
}

-- .. and it stands for no place
pub popped_past : (g : Graph) (done : List ℕ) (marks : List Bool) (ready ready_next : List ℕ) (waiting : List (List ℕ)) (x : ℕ)
    → IsGood g done marks ready waiting → IsPermutation ready (x ∷ ready_next) → IsInHeap ready_next
    → length g ≤ length g - x → IsGood g done marks ready_next waiting
popped_past g done marks ready ready_next waiting x good perm heap past = record {
  path = good.path;
  marks_are = good.marks_are;
  size = good.size;
  rows = good.rows;
  heap = heap;
  each = λ i within un closed.
      good.each i within un
      (list_any-IsPermutation (nat_eq (length g - i)) ready (x ∷ ready_next) perm
      ∙ rw (
        closed,
        false_from_ne_true (nat_eq (length g - i) x)
            (λ s. (let same = same_place (length g - i) x s in absurd (omega (arith, same, within, past)))),
      ) refl);
}

-- all are ready at first
pub all_good : (g : Graph) (done : List ℕ) (marks : List Bool) (ready : List ℕ) (waiting : List (List ℕ))
    → done ≡ [] → ((i : ℕ) → marked marks i ≡ false) → length marks ≡ length g → length waiting ≡ length g
    → IsInHeap ready → ((i : ℕ) → i < length g → has ready (length g - i) ≡ true)
    → IsGood g done marks ready waiting
unfolding order_of
all_good g done marks ready waiting d m size rows heap all = rw d (record {
  path = refl;
  marks_are = λ i. m i ∙ sym (nothing_done i);
  size = size;
  rows = rows;
  heap = heap;
  each = λ i inside un closed. absurd (no_true (sym (all i inside) ∙ closed));
})

-- places are opened one by one
pub opens_none : (size : ℕ) (ready places : List ℕ) → IsInHeap ready → Opens size ready [] ready
opens_none size ready places heap = record {
  heap = heap;
  kept = λ k h. h;
  more = λ i h. absurd (no_true (sym h));
}

pub opens_more : (size : ℕ) (old before ready ready_next : List ℕ) (p : ℕ) → Opens size old before ready
    → IsPermutation ((size - p) ∷ ready) ready_next → (IsInHeap ready → IsInHeap ready_next)
    → Opens size old (before ++ p ∷ []) ready_next
opens_more size old before ready ready_next p opens perm heap = record {
  heap = heap opens.heap;
  kept = λ k h. still k (opens.kept k h);
  more = λ i h.
      (let P : Bool → Type 0 = λ b. has before i ≡ b → (b || (nat_eq i p || false)) ≡ true → has ready_next (size - i) ≡ true in
      let go : P (has before i) = elim (has before i) as P [
        | true ↦ λ s e. still (size - i) (opens.more i s)
        | false ↦ λ s e.
            (let same = same_place i p (only (nat_eq i p) e) in
            rw same (sym (list_any-IsPermutation (nat_eq (size - p)) ((size - p) ∷ ready) ready_next perm) ∙ rw (nat_eq-same (size - p)) refl))
      ] in
      go refl (sym (list_any-append (nat_eq i) before (p ∷ [])) ∙ h));
}
  where
    only : (b : Bool) → (b || false) ≡ true → b ≡ true
    only true h = refl
    only false h = h

    or_true : (b : Bool) → (b || true) ≡ true
    or_true true = refl
    or_true false = refl

    still : (k : ℕ) → has ready k ≡ true → has ready_next k ≡ true
    still k h = sym (list_any-IsPermutation (nat_eq k) ((size - p) ∷ ready) ready_next perm) ∙ rw h (or_true (nat_eq k (size - p)))

-- one place more
pub places_more : (places : List ℕ) (n i : ℕ) → ((j : ℕ) → j < n → has places j ≡ true) → i < n + 1
    → has (places ++ n ∷ []) i ≡ true
places_more places n i h less = ⊎_elim
    (λ before. still_has places (n ∷ []) i (h i before))
    (λ ge. (let same : i ≡ n = omega (arith, less, ge) in rw same (last_has places n)))
    (cases_lt i n)

-- .. in the order of a list
pub opens_turn : (size : ℕ) (old places ready ready_next : List ℕ) (i p k : ℕ) → i < length places
    → p ≡ get_or places i p → k ≡ size - p → Opens size old (take i places) ready
    → IsPermutation (k ∷ ready) ready_next → (IsInHeap ready → IsInHeap ready_next)
    → Opens size old (take (i + 1) places) ready_next
opens_turn size old places ready ready_next i p k inside at is opens perm heap =
    let more : take (i + 1) places ≡ take i places ++ p ∷ [] =
    take_more places i p inside ∙ ap (λ x. take i places ++ x ∷ []) (sym at) in
    rw more (opens_more size old (take i places) ready ready_next p opens (rw is at perm) heap)

-- one need that is done
needs_met : (marks : List Bool) (needs : List ℕ) (i p : ℕ) → i < length needs → p ≡ get_or needs i p
    → marked marks p ≡ true → are_marked marks (drop i needs) ≡ are_marked marks (drop (i + 1) needs)
unfolding are_marked
needs_met marks needs i p inside at m = rw (drop_at needs i p inside at) (rw m refl)

behind_has : (needs : List ℕ) (i p m : ℕ) → i < length needs → p ≡ get_or needs i p
    → has (drop (i + 1) needs) m ≡ true → has (drop i needs) m ≡ true
behind_has needs i p m inside at h = rw (drop_at needs i p inside at) (rw h (last_true (nat_eq m p)))
  where
    last_true : (b : Bool) → (b || true) ≡ true
    last_true true = refl
    last_true false = refl

pub record OpenNeed (marks : List Bool) (needs : List ℕ) (i : ℕ) : Type 0 where
  pub same : are_marked marks needs ≡ are_marked marks (drop i needs)
  pub within : (m : ℕ) → has (drop i needs) m ≡ true → has needs m ≡ true

pub need_turn : (marks : List Bool) (needs : List ℕ) (i p : ℕ) → i < length needs → p ≡ get_or needs i p
    → marked marks p ≡ true → OpenNeed marks needs i → OpenNeed marks needs (i + 1)
need_turn marks needs i p inside at m turn = record {
  same = turn.same ∙ needs_met marks needs i p inside at m;
  within = λ n h. turn.within n (behind_has needs i p n inside at h);
}

pub needs_over : (marks : List Bool) (needs : List ℕ) (i : ℕ) → length needs ≤ i → OpenNeed marks needs i
    → are_marked marks needs ≡ true
unfolding are_marked
needs_over marks needs i past turn = turn.same ∙ rw (drop_all i needs past) refl

-- .. where the call did not fail
pub waited : {E : Type 0} (g : Graph) (done : List ℕ) (marks : List Bool) (ready : List ℕ) (waiting next_rows : List (List ℕ)) (p need : ℕ)
    (r : Result ⊤ E) → IsGoodBut g done marks ready waiting p → has (needs_of g p) need ≡ true → marked marks need ≡ false
    → OnOk r (next_rows ≡ with_waiting need p waiting) → OnOk r (IsGood g done marks ready next_rows)
waited g done marks ready waiting next_rows p need (Ok x) good needed un is = has_waited g done marks ready waiting next_rows p need good needed un is
waited g done marks ready waiting next_rows p need (Err e) good needed un is = tt

pub finished_with : {E : Type 0} (g : Graph) (done done_next : List ℕ) (marks marks_next : List Bool) (ready ready_next : List ℕ) (waiting waiting_next : List (List ℕ)) (p : ℕ)
    (r : Result ⊤ E) → p < length g → IsGoodBut g done marks ready waiting p → marked marks p ≡ false → are_marked marks (needs_of g p) ≡ true
    → OnOk r (done_next ≡ done ++ p ∷ []) → OnOk r (marks_next ≡ set marks p true)
    → OnOk r (Opens (length g) ready (get_or waiting p []) ready_next) → OnOk r (waiting_next ≡ waiting)
    → OnOk r (IsGood g done_next marks_next ready_next waiting_next)
finished_with g done done_next marks marks_next ready ready_next waiting waiting_next p (Ok x) inside good un met d m opens w =
    has_finished g done done_next marks marks_next ready ready_next waiting waiting_next p inside good un met d m opens w
finished_with g done done_next marks marks_next ready ready_next waiting waiting_next p (Err e) inside good un met d m opens w = tt
