-- The order of globals is one of dependence, and it stops short exactly where there is a circle.
use Rattle.std.proofs.Common.{◌≡◌, ◌∙◌, sym, refl, ℕ, zero, suc, ◌+◌, ◌-◌, ◌<◌, ◌≤◌, List, [], ◌∷◌, ◌++◌, append_assoc, append-nil, Bool, true, false, not, ◌&&◌, ◌||◌, if◌then◌else◌, Option, Some, None, length, nat_eq, arith}
use Rattle.std.proofs.Math.Nat.{eq-or-lt_of_le}
use mathlib.Core.Logic.{⊎_elim}
use Rattle.std.proofs.lemmas.Bool.Decides.{nat_tests}
use Rattle.std.specs.List.{list_any, list_all}
use Rattle.std.proofs.Common.{rules}
use Rattle.global_order.specs.Order.{Graph, needs_of, is_in, is_ready, is_next, next_of, next, step, steps, order_of, InOrder, nothing, behind, IsCircle, Grown, left_out, StopsAtCircles, IsInOrder}
use Rattle.xt_names.proofs.BoolLemmas.{one_less, and_second as second}
use Rattle.global_order.proofs.GraphOrders.Tests.{no_true}

-- what next_of finds is next, and within
pub next-is : (k i n : ℕ) (g : Graph) (done : List ℕ) → next_of k i g done ≡ Some n → is_next g done n ≡ true
next-is zero i n g done h = cc
next-is (suc k) i n g done h =
    let P : Bool → Type 0 = λ b. (b ≡ is_next g done i) → (if b then Some i else next_of k (suc i) g done) ≡ Some n → is_next g done n ≡ true in
    let f : P (is_next g done i) = elim (is_next g done i) as P [ true ↦ λ e h. cc | false ↦ λ e h. next-is k (suc i) n g done h ] in
    f refl h

pub next-within : (k i n : ℕ) (g : Graph) (done : List ℕ) → next_of k i g done ≡ Some n → n < i + k
next-within zero i n g done h = cc
next-within (suc k) i n g done h =
    let P : Bool → Type 0 = λ b. (if b then Some i else next_of k (suc i) g done) ≡ Some n → n < i + suc k in
    let f : P (is_next g done i) = elim (is_next g done i) as P [
      | true ↦ λ h. let e : i ≡ n = cc in omega (arith, e)
      | false ↦ λ h. let e = next-within k (suc i) n g done h in omega (arith, e)
    ] in
    f h

here : (k i j : ℕ) (g : Graph) (done : List ℕ) → is_next g done i ≡ false → next_of k (suc i) g done ≡ None → i ≤ j → j < i + suc k → (suc i ≤ j → j < suc i + k → is_next g done j ≡ false) → is_next g done j ≡ false
here k i j g done e h a b later = ⊎_elim (λ same. cc) (λ less. later less (omega (arith, b))) (eq-or-lt_of_le a)

pub next-none : (k i j : ℕ) (g : Graph) (done : List ℕ) → next_of k i g done ≡ None → i ≤ j → j < i + k → is_next g done j ≡ false
next-none zero i j g done h a b = absurd (omega arith)
next-none (suc k) i j g done h a b =
    let P : Bool → Type 0 = λ x. (x ≡ is_next g done i) → (if x then Some i else next_of k (suc i) g done) ≡ None → is_next g done j ≡ false in
    let f : P (is_next g done i) = elim (is_next g done i) as P [
      | true ↦ λ e h. cc
      | false ↦ λ e h. here k i j g done (sym e) h a b (next-none k (suc i) j g done h)
    ] in
    f refl h

pub next-inside : (i : ℕ) (g : Graph) (done : List ℕ) → next g done ≡ Some i → i < length g
next-inside i g done e = omega (arith, next-within (length g) 0 i g done e)

-- what is done after so many steps
pub grown : (k : ℕ) (g : Graph) (done : List ℕ) → Grown g done (steps k g done)
unfolding step
grown zero g done = record { rest = []; in_order = nothing; is_all = sym (append-nil done) }
grown (suc k) g done =
    let P : Option ℕ → Type 0 = λ o. next g done ≡ o → Grown g done (step (steps k g) done o) in
    let f : P (next g done) = elim (next g done) as P [
      | None ↦ λ e. record { rest = []; in_order = nothing; is_all = sym (append-nil done) }
      | Some i ↦ λ e.
          let r = grown k g (done ++ i ∷ []) in
          record { rest = i ∷ r.rest; in_order = behind i r.rest (next-inside i g done e) (next-is (length g) 0 i g done e) r.in_order; is_all = r.is_all ∙ append_assoc done (i ∷ []) r.rest }
    ] in
    f refl

pub order-in_order : (g : Graph) (all : List ℕ) → all ≡ order_of g → InOrder g [] all
unfolding order_of
order-in_order g all h = let r = grown (length g) g [] in let e : all ≡ r.rest = h ∙ r.is_all in rw e r.in_order

-- how many of the first globals are not done
abbrev pub undone : ℕ → List ℕ → ℕ
undone zero done = 0
undone (suc n) done = (if is_in done n then 0 else 1) + undone n done

any-more : (f : ℕ → Bool) (xs : List ℕ) (y : ℕ) → list_any f (xs ++ y ∷ []) ≡ (list_any f xs || f y)
any-more f [] y = elim (f y) as (λ b. (b || false) ≡ (false || b)) [ true ↦ refl | false ↦ refl ]
any-more f (x ∷ xs) y = let ih = any-more f xs y in elim (f x) as (λ b. (b || list_any f (xs ++ y ∷ [])) ≡ ((b || list_any f xs) || f y)) [ true ↦ refl | false ↦ ih ]

pub is_in-more : (done : List ℕ) (i n : ℕ) → is_in (done ++ i ∷ []) n ≡ (is_in done n || nat_eq i n)
unfolding is_in
is_in-more done i n = any-more (λ d. nat_eq d n) done i

undone-le : (n i : ℕ) (done : List ℕ) → undone n (done ++ i ∷ []) ≤ undone n done
undone-le zero i done = omega arith
undone-le (suc n) i done = rw (is_in-more done i n) (omega (arith, undone-le n i done, one_less (is_in done n) (nat_eq i n)))

pub nat_eq-same : (n : ℕ) → nat_eq n n ≡ true
nat_eq-same n = search rules

pub last_is : (done : List ℕ) (i n : ℕ) → i ≡ n → is_in done n ≡ false → (is_in done n || nat_eq i n) ≡ true
last_is done i n same now = rw (now, same) (nat_eq-same n)

undone-less : (n i : ℕ) (done : List ℕ) → i < n → is_in done i ≡ false → undone n (done ++ i ∷ []) < undone n done
undone-less zero i done h e = absurd (omega arith)
undone-less (suc n) i done h e =
    let le : i ≤ n = omega (arith, h) in
    ⊎_elim
    (λ same.
    let now : is_in done n ≡ false = cc in
    let both : (is_in done n || nat_eq i n) ≡ true = last_is done i n same now in
    rw (is_in-more done i n) (rw (both, now) (omega (arith, undone-le n i done))))
    (λ less. rw (is_in-more done i n) (omega (arith, undone-less n i done less e, one_less (is_in done n) (nat_eq i n))))
    (eq-or-lt_of_le le)

not_in : (g : Graph) (done : List ℕ) (i : ℕ) → is_next g done i ≡ true → is_in done i ≡ false
unfolding is_next
not_in g done i =
    elim (is_in done i) as (λ b. (not b && is_ready done (needs_of g i)) ≡ true → b ≡ false) [ true ↦ λ h. cc | false ↦ λ h. refl ]

pub some-positive : (g : Graph) (done : List ℕ) (i : ℕ) → next g done ≡ Some i → undone (length g) (done ++ i ∷ []) < undone (length g) done
some-positive g done i e = undone-less (length g) i done (next-inside i g done e) (not_in g done i (next-is (length g) 0 i g done e))

-- after enough steps none is next
pub finished : (k : ℕ) (g : Graph) (done : List ℕ) → undone (length g) done ≤ k → next g (steps k g done) ≡ None
unfolding step
finished zero g done h =
    let P : Option ℕ → Type 0 = λ o. next g done ≡ o → next g done ≡ None in
    let f : P (next g done) = elim (next g done) as P [ None ↦ λ e. e | Some i ↦ λ e. let less = some-positive g done i e in absurd (omega (arith, less, h)) ] in
    f refl
finished (suc k) g done h =
    let P : Option ℕ → Type 0 = λ o. next g done ≡ o → next g (step (steps k g) done o) ≡ None in
    let f : P (next g done) = elim (next g done) as P [
      | None ↦ λ e. e
      | Some i ↦ λ e. let less = some-positive g done i e in finished k g (done ++ i ∷ []) (omega (arith, less, h))
    ] in
    f refl

at_most : (b : Bool) → (if b then 0 else 1) ≤ 1
at_most true = omega arith
at_most false = omega arith

pub undone-all : (n : ℕ) (done : List ℕ) → undone n done ≤ n
undone-all zero done = omega arith
undone-all (suc n) done = let one = at_most (is_in done n) in omega (arith, undone-all n done, one)

pub order-ends : (g : Graph) → next g (order_of g) ≡ None
unfolding order_of
order-ends g = finished (length g) g [] (undone-all (length g) [])

-- not all pass, so one does not
not_all : (f : ℕ → Bool) (xs : List ℕ) → list_all f xs ≡ false → list_any (λ x. not (f x)) xs ≡ true
not_all f [] = λ h. cc
not_all f (x ∷ xs) =
    let ih = not_all f xs in
    elim (f x) as (λ b. (b && list_all f xs) ≡ false → (not b || list_any (λ y. not (f y)) xs) ≡ true) [ true ↦ λ h. ih h | false ↦ λ h. refl ]

rest : (a b : Bool) → (not a && b) ≡ false → not a ≡ true → b ≡ false
rest true b h e = cc
rest false b h e = h

stuck : (g : Graph) (done : List ℕ) (i : ℕ) → is_next g done i ≡ false → not (is_in done i) ≡ true → list_any (λ n. not (is_in done n)) (needs_of g i) ≡ true
unfolding is_next is_ready
stuck g done i h e =
    not_all (is_in done) (needs_of g i) (rest (is_in done i) (list_all (is_in done) (needs_of g i)) h e)

pub circle_left : (g : Graph) (i : ℕ) → i < length g → left_out g i ≡ true → IsCircle g (left_out g)
circle_left g i less h = record {
  one = i;
  one_in = h;
  one_is = less;
  each = λ j within is. stuck g (order_of g) j (next-none (length g) 0 j g (order_of g) (order-ends g) (omega arith) (omega (arith, within))) is;
}

drop_first : (p q : Bool) → p ≡ false → (p || q) ≡ true → q ≡ true
drop_first true q e h = cc
drop_first false q e h = h

-- a list in order meets no circle
clash : (of f : ℕ → Bool) (xs : List ℕ) → list_any of xs ≡ true → list_all f xs ≡ true → ((n : ℕ) → f n ≡ true → of n ≡ false) → true ≡ false
clash of f [] a b h = cc
clash of f (x ∷ xs) a b h =
    let P : Bool → Type 0 = λ y. (f x ≡ y) → (y && list_all f xs) ≡ true → true ≡ false in
    let go : P (f x) = elim (f x) as P [
      | true ↦ λ e b. let free = h x e in clash of f xs (drop_first (of x) (list_any of xs) free a) b h
      | false ↦ λ e b. cc
    ] in
    go refl b

-- one more is done
either : (a b : Bool) → (a || b) ≡ true → (P : Type 0) → (a ≡ true → P) → (b ≡ true → P) → P
either true b h P f g = f refl
either false b h P f g = g h

-- a global that is in order is in no circle whose globals are not done
new_avoids : (g : Graph) (of : ℕ → Bool) → ((i : ℕ) → i < length g → of i ≡ true → list_any of (needs_of g i) ≡ true)
    → (done : List ℕ) → ((n : ℕ) → is_in done n ≡ true → of n ≡ false) → (i : ℕ) → i < length g → is_next g done i ≡ true → of i ≡ false
unfolding is_next is_ready
new_avoids g of each done h i less is =
    let P : Bool → Type 0 = λ b. of i ≡ b → b ≡ false in
    let f : P (of i) = elim (of i) as P [
      | true ↦ λ e. clash of (is_in done) (needs_of g i) (each i less e) (second (not (is_in done i)) (list_all (is_in done) (needs_of g i)) is) h
      | false ↦ λ e. refl
    ] in
    f refl

grows : (of : ℕ → Bool) (done : List ℕ) → ((n : ℕ) → is_in done n ≡ true → of n ≡ false) → (i : ℕ) → of i ≡ false → (n : ℕ) → is_in (done ++ i ∷ []) n ≡ true → of n ≡ false
grows of done h i free n e =
    either (is_in done n) (nat_eq i n) (rw (sym (is_in-more done i n)) e) (of n ≡ false) (h n) (λ same. let k : i ≡ n = grind (arith, nat_tests, same) in cc)

avoids : (g : Graph) (of : ℕ → Bool) → ((i : ℕ) → i < length g → of i ≡ true → list_any of (needs_of g i) ≡ true)
    → (done rest : List ℕ) → InOrder g done rest → ((n : ℕ) → is_in done n ≡ true → of n ≡ false) → (n : ℕ) → is_in (done ++ rest) n ≡ true → of n ≡ false
avoids g of each done _ nothing h n e = h n (rw (sym (append-nil done)) e)
avoids g of each done _ (behind i others less is more) h n e =
    avoids g of each (done ++ i ∷ []) others more (grows of done h i (new_avoids g of each done h i less is)) n (rw (append_assoc done (i ∷ []) others) e)

nothing_done : (of : ℕ → Bool) (n : ℕ) → is_in [] n ≡ true → of n ≡ false
unfolding is_in
nothing_done of n h = cc

out_of : (g : Graph) (of : ℕ → Bool) (circle : IsCircle g of) → is_in (order_of g) circle.one ≡ true → ⊥
out_of g of circle e =
    let free = avoids g of circle.each [] (order_of g) (order-in_order g (order_of g) refl) (nothing_done of) circle.one e in
    no_true (sym circle.one_in ∙ free)

left_is : (b : Bool) → (b ≡ true → ⊥) → not b ≡ true
left_is true h = absurd (h refl)
left_is false h = refl

pub circles : (g : Graph) → StopsAtCircles g
circles g = record {
  left_out_by = λ i. circle_left g i;
  leaves_out = λ of circle. left_is (is_in (order_of g) circle.one) (λ e. out_of g of circle e);
}

pub ends_with : (g : Graph) (o : List ℕ) → o ≡ order_of g → next g o ≡ None
ends_with g o h = rw h (order-ends g)

pub in_order_with : (g : Graph) (o : List ℕ) → o ≡ order_of g → IsInOrder g o
in_order_with g o h = order-in_order g o h

-- one turn of the steps
pub steps-some : (n i p : ℕ) (g : Graph) (done : List ℕ) → i < n → Some p ≡ next g done → steps (n - i) g done ≡ steps (n - (i + 1)) g (done ++ p ∷ [])
unfolding step
steps-some n i p g done less e = let k : n - i ≡ suc (n - (i + 1)) = omega (arith, less) in rw (k, sym e) refl

pub steps-none : (n i : ℕ) (g : Graph) (done : List ℕ) → i < n → None ≡ next g done → steps (n - i) g done ≡ done
unfolding step
steps-none n i g done less e = let k : n - i ≡ suc (n - (i + 1)) = omega (arith, less) in rw (k, sym e) refl

pub steps-over : (n i : ℕ) (g : Graph) (done : List ℕ) → n ≤ i → steps (n - i) g done ≡ done
steps-over n i g done le = let k : n - i ≡ 0 = omega (arith, le) in rw k refl

pub steps-start : (g : Graph) → order_of g ≡ steps (length g - 0) g []
unfolding order_of
steps-start g = let k : length g - 0 ≡ length g = omega arith in rw k refl

pub ruleset turns = (steps-some, steps-none, steps-over, steps-start)

pub ruleset orders = (ends_with, in_order_with, circles)
