-- An order of which all is told is the one that steps find.
use Rattle.std.proofs.Common.{◌≡◌, ◌∙◌, sym, refl, ap, ℕ, zero, suc, ◌+◌, ◌-◌, ◌<◌, ◌≤◌, List, [], ◌∷◌, ◌++◌, Bool, true, false}
use Rattle.std.proofs.Common.{◌&&◌, ◌||◌, not, if◌then◌else◌, Option, Some, None, nat_eq, nat_lt, get_or, length, take, take_all, arith}
use Rattle.std.proofs.Math.Nat.{eq-or-lt_of_le}
use mathlib.Core.Logic.{⊎_elim}
use Rattle.std.proofs.lemmas.Bool.{cases_lt, and_parts, false_from_ne_true}
use Rattle.std.proofs.lemmas.List.{take_more}
use Rattle.std.specs.List.{list_any, list_all}
use Rattle.global_order.specs.ReachedPlaces.Walks.{has}
use Rattle.global_order.proofs.ReachedPlaces.WalkLemmas.{same_place, nat_eq-same}
use Rattle.global_order.specs.Order.{is_in, is_ready, is_next, next_of, next, step, steps, order_of}
use Rattle.global_order.specs.Order as order_specs
use Rattle.global_order.specs.GraphOrders.Needs.{needs_of, needs_from}
use Rattle.global_order.specs.GraphOrders.Checks.{at_in, is_placed, has_place, is_in_time, IsTold}
use Rattle.global_order.proofs.GraphOrders.Tests.{no_true, is_less, is_not_less, test_less, test_not_less, all_pass, one_fails}
use Rattle.global_order.proofs.GraphOrders.Reached.{needs_at, needs_length, need_inside, need_before, latest_need}
use Rattle.global_order.specs.Order.{Graph}

-- the front of an order has what is there
front_has : (order : List ℕ) (t p : ℕ) → p < t → p < length order → is_in (take t order) (at_in order p) ≡ true
unfolding is_in
front_has [] t p h l = absurd (omega (arith, l))
front_has (x ∷ xs) zero p h l = absurd (omega (arith, h))
front_has (x ∷ xs) (suc t) zero h l = rw (nat_eq-same x) refl
front_has (x ∷ xs) (suc t) (suc p) h l =
    let ih = front_has xs t p (omega (arith, h)) (omega (arith, l)) in
    rw ih (elim (nat_eq x (at_in xs p)) as (λ b. (b || true) ≡ true) [ true ↦ refl | false ↦ refl ])

-- .. and nothing else
record InFront (order : List ℕ) (t i : ℕ) : Type 0 where
  place : ℕ
  before : place < t
  inside : place < length order
  is : at_in order place ≡ i

in_front : (order : List ℕ) (t i : ℕ) → is_in (take t order) i ≡ true → InFront order t i
unfolding is_in
in_front [] zero i h = absurd (no_true (sym h))
in_front [] (suc t) i h = absurd (no_true (sym h))
in_front (x ∷ xs) zero i h = absurd (no_true (sym h))
in_front (x ∷ xs) (suc t) i h =
    let P : Bool → Type 0 = λ b. nat_eq x i ≡ b → (b || is_in (take t xs) i) ≡ true → InFront (x ∷ xs) (suc t) i in
    let go : P (nat_eq x i) = elim (nat_eq x i) as P [
      | true ↦ λ e k. record { place = 0; before = omega arith; inside = omega arith; is = same_place x i e }
      | false ↦ λ e k. (let r = in_front xs t i k in
          record { place = suc r.place; before = omega (arith, r.before); inside = omega (arith, r.inside); is = r.is })
    ] in
    go refl h

-- the first that is next
pub first_next : (k i j : ℕ) (g : order_specs.Graph) (done : List ℕ) → i ≤ j → j < i + k → is_next g done j ≡ true
    → ((m : ℕ) → i ≤ m → m < j → is_next g done m ≡ false) → next_of k i g done ≡ Some j
first_next zero i j g done a b is none = absurd (omega (arith, a, b))
first_next (suc k) i j g done a b is none = ⊎_elim
    (λ (same : i ≡ j). (let here : is_next g done i ≡ true = ap (is_next g done) same ∙ is in
    let found : next_of (suc k) i g done ≡ Some i = rw here refl in
    found ∙ ap (λ (n : ℕ). Some n) same))
    (λ (less : i < j). (let here : is_next g done i ≡ false = none i (omega arith) less in
    let later : next_of (suc k) i g done ≡ next_of k (suc i) g done = rw here refl in
    later ∙ first_next k (suc i) j g done less (omega (arith, b)) is (λ m x y. none m (omega (arith, x)) y)))
    (eq-or-lt_of_le a)

-- .. or none is
none_next : (k i : ℕ) (g : order_specs.Graph) (done : List ℕ)
    → ((m : ℕ) → i ≤ m → m < i + k → is_next g done m ≡ false) → next_of k i g done ≡ None
none_next zero i g done none = refl
none_next (suc k) i g done none =
    let here : is_next g done i ≡ false = none i (omega arith) (omega arith) in
    let later : next_of (suc k) i g done ≡ next_of k (suc i) g done = rw here refl in
    later ∙ none_next k (suc i) g done (λ m x y. none m (omega (arith, x)) (omega (arith, y)))

not_both : (b : Bool) → (not b && false) ≡ false
not_both true = refl
not_both false = refl

-- what a test of two cases says in each
in_first : (b x y : Bool) → b ≡ true → (if b then x else y) ≡ true → x ≡ true
in_first true x y e h = h
in_first false x y e h = absurd (no_true (sym e))

in_second : (b x y : Bool) → b ≡ false → (if b then x else y) ≡ true → y ≡ true
in_second true x y e h = absurd (no_true e)
in_second false x y e h = h

unless_not : (b x : Bool) → b ≡ true → (not b || x) ≡ true → x ≡ true
unless_not true x e h = h
unless_not false x e h = absurd (no_true (sym e))

module _ (g : Graph) (at count : ℕ) (order places latest ways : List ℕ) (told : IsTold g at count order places latest ways) where
  abbrev needs : List (List ℕ)
  needs = needs_from count 0 g at

  stands : (t : ℕ) → t < length order → (at_in order t < count) × (at_in places (at_in order t) ≡ t)
  stands t h =
      let both = and_parts (nat_lt (at_in order t) count) (nat_eq (at_in places (at_in order t)) t) (told.stands t h) in
      (is_less (at_in order t) count both.0, same_place (at_in places (at_in order t)) t both.1)

  placed : (i : ℕ) → i < count → at_in places i < length order → at_in order (at_in places i) ≡ i
  placed i h inside =
      let p = at_in places i in
      let test = test_less p (length order) inside in
      same_place (at_in order p) i
      (unless_not (nat_lt p (length order)) (nat_eq (at_in order p) i) test (told.placed i h))

  in_time : (i : ℕ) → i < count → at_in places i < length order → at_in latest i ≤ at_in places i
  in_time i h inside =
      let p = at_in places i in
      let late = at_in latest i in
      let test = test_less p (length order) inside in
      is_not_less p late
      (in_first (nat_lt p (length order)) (not (nat_lt p late)) (nat_lt (length order) late) test (told.in_time i h))

  -- one that is left out waits for another
  left_out : (i : ℕ) → i < count → length order ≤ at_in places i → length order < at_in latest i
  left_out i h past =
      let p = at_in places i in
      let late = at_in latest i in
      let test = test_not_less p (length order) past in
      is_less (length order) late
      (in_second (nat_lt p (length order)) (not (nat_lt p late)) (nat_lt (length order) late) test (told.in_time i h))

  row_is : (i : ℕ) → i < count → order_specs.needs_of needs i ≡ needs_of g at i
  row_is i h = needs_at count i 0 at g h ∙ (let e : 0 + i ≡ i = omega arith in ap (needs_of g at) e)

  -- those that stand before are done
  done : (t i : ℕ) → t ≤ length order → i < count → at_in places i < t → is_in (take t order) i ≡ true
  done t i within h before =
      let inside : at_in places i < length order = omega (arith, before, within) in
      let there = front_has order t (at_in places i) before inside in
      ap (is_in (take t order)) (sym (placed i h inside)) ∙ there

  -- .. and no others
  not_done : (t i : ℕ) → i < count → t ≤ at_in places i → is_in (take t order) i ≡ false
  not_done t i h later = false_from_ne_true (is_in (take t order) i) (λ e.
      (let r = in_front order t i e in
      let s = stands r.place r.inside in
      let same : at_in places i ≡ r.place = ap (at_in places) (sym r.is) ∙ s.1 in
      omega (arith, same, r.before, later)))

  ready : (t i : ℕ) → t ≤ length order → i < count → at_in latest i ≤ t → is_ready (take t order) (needs_of g at i) ≡ true
  unfolding is_ready
  ready t i within h early =
      all_pass (is_in (take t order)) (needs_of g at i)
      (λ x e. (let inside = need_inside g at count order places latest ways told i x h e in
      let before = need_before g at count order places latest ways told i x h e in
      done t x within inside (omega (arith, before, early))))

  waits : (t i : ℕ) → i < count → t < at_in latest i → is_ready (take t order) (needs_of g at i) ≡ false
  unfolding is_ready
  waits t i h late =
      let need = latest_need g at count order places latest ways told i h (omega (arith, late)) in
      one_fails (is_in (take t order)) (needs_of g at i) need.one need.there
      (not_done t need.one need.inside (omega (arith, need.is, late)))

  -- the next of the order is next
  is_the_next : (t : ℕ) → t < length order → is_next needs (take t order) (at_in order t) ≡ true
  unfolding is_next
  is_the_next t h =
      let s = stands t h in
      let i = at_in order t in
      let new : is_in (take t order) i ≡ false = not_done t i s.0 (omega (arith, s.1)) in
      let early : at_in latest i ≤ t = (let e = in_time i s.0 (omega (arith, s.1, h)) in omega (arith, e, s.1)) in
      let all : is_ready (take t order) (order_specs.needs_of needs i) ≡ true =
      ap (is_ready (take t order)) (row_is i s.0) ∙ ready t i (omega (arith, h)) s.0 early in
      rw (new, all) refl

  already : (t i : ℕ) → is_in (take t order) i ≡ true → is_next needs (take t order) i ≡ false
  unfolding is_next
  already t i e = rw e refl

  not_yet : (t i : ℕ) → i < count → t < at_in latest i → is_next needs (take t order) i ≡ false
  unfolding is_next
  not_yet t i h late =
      let none : is_ready (take t order) (order_specs.needs_of needs i) ≡ false =
      ap (is_ready (take t order)) (row_is i h) ∙ waits t i h late in
      rw none (not_both (is_in (take t order) i))

  -- one that stands further behind is less than this one only where it waits
  behind : (t i : ℕ) → i < count → t ≤ at_in places i → at_in places i < length order → at_in latest i ≤ t → at_in order t ≤ i
  behind t i inside later within early =
      let there = placed i inside within in
      ⊎_elim
      (λ (same : t ≡ at_in places i). (let no : at_in order t ≡ i = ap (at_in order) same ∙ there in omega (arith, no)))
      (λ (less : t < at_in places i).
      (let here : at_in latest (at_in order (at_in places i)) ≤ t = (let e = ap (at_in latest) there in omega (arith, e, early)) in
      let below = told.least (at_in places i) within t here less in
      omega (arith, below, there)))
      (eq-or-lt_of_le later)

  -- .. and none before it is
  none_before : (t i : ℕ) → t < length order → i < at_in order t → is_next needs (take t order) i ≡ false
  none_before t i h less =
      let s = stands t h in
      let inside : i < count = omega (arith, less, s.0) in
      ⊎_elim
      (λ (before : at_in places i < t). already t i (done t i (omega (arith, h)) inside before))
      (λ (later : t ≤ at_in places i). ⊎_elim
      (λ (late : t < at_in latest i). not_yet t i inside late)
      (λ (early : at_in latest i ≤ t). ⊎_elim
      (λ (within : at_in places i < length order).
      (let no = behind t i inside later within early in absurd (omega (arith, no, less))))
      (λ (past : length order ≤ at_in places i).
      (let no = left_out i inside past in absurd (omega (arith, no, early, h))))
      (cases_lt (at_in places i) (length order)))
      (cases_lt t (at_in latest i)))
      (cases_lt (at_in places i) t)

  next_is : (t : ℕ) → t < length order → next needs (take t order) ≡ Some (at_in order t)
  next_is t h =
      let s = stands t h in
      let size = needs_length count 0 at g in
      first_next (length needs) 0 (at_in order t) needs (take t order) (omega arith) (omega (arith, s.0, size))
      (is_the_next t h) (λ m a b. none_before t m h b)

  -- after the whole order none is next
  never : (t i : ℕ) → t ≤ length order → length order ≤ t → i < count → is_next needs (take t order) i ≡ false
  never t i within whole inside =
      ⊎_elim
      (λ (before : at_in places i < length order). already t i (done t i within inside (omega (arith, before, whole))))
      (λ (past : length order ≤ at_in places i).
      (let late = left_out i inside past in not_yet t i inside (omega (arith, late, within))))
      (cases_lt (at_in places i) (length order))

  next_none : (t : ℕ) → t ≤ length order → length order ≤ t → next needs (take t order) ≡ None
  next_none t within whole =
      let size = needs_length count 0 at g in
      none_next (length needs) 0 needs (take t order) (λ m a b. never t m within whole (omega (arith, b, size)))

  one_step : (k t : ℕ) → t < length order → steps k needs (take (t + 1) order) ≡ order → steps (suc k) needs (take t order) ≡ order
  unfolding step
  one_step k t h rest =
      let more : take (t + 1) order ≡ take t order ++ at_in order t ∷ [] = take_more order t 0 h in
      rw (next_is t h) (rw more at rest)

  last_step : (k t : ℕ) → t ≤ length order → length order ≤ t → steps (suc k) needs (take t order) ≡ order
  unfolding step
  last_step k t within whole =
      let all : take t order ≡ order = take_all t order whole in
      rw (next_none t within whole) all

  all_steps : (k t : ℕ) → t ≤ length order → length order ≤ t + k → steps k needs (take t order) ≡ order
  all_steps zero t within enough = take_all t order (omega (arith, enough))
  all_steps (suc k) t within enough = ⊎_elim
      (λ (h : t < length order). one_step k t h (all_steps k (t + 1) (omega (arith, h)) (omega (arith, enough))))
      (λ (whole : length order ≤ t). last_step k t within whole)
      (cases_lt t (length order))

  pub order_is : order ≡ order_of needs
  unfolding order_of
  order_is =
      let size = needs_length count 0 at g in
      let all : steps count needs [] ≡ order = all_steps count 0 (omega arith) (omega (arith, told.order_size)) in
      sym (ap (λ (n : ℕ). steps n needs []) size ∙ all)
