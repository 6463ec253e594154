-- Where stretches of lower numbers begin.
use Rattle.std.proofs.Common.{◌≡◌, refl, ap, ℕ, zero, suc, ◌+◌, ◌-◌, ◌<◌, ◌≤◌, List, [], ◌∷◌, ◌++◌, length, arith}
use Rattle.std.proofs.Math.Nat.{eq-or-lt_of_le}
use mathlib.Core.Logic.{⊎_elim}
use Rattle.std.proofs.lemmas.Bool.{cases_lt}
use Rattle.std.proofs.lemmas.List.{get_or_append_left}
use Rattle.global_order.specs.GraphOrders.Checks.{at_in, AreBelow, Begins, AreLeast}

-- one stretch more
pub stretch : (order begins : List ℕ) (place begin : ℕ) → Begins order begins place → 1 ≤ begin → begin ≤ place
    → at_in order (begin - 1) < at_in order place → AreBelow order begin place
    → AreBelow order (at_in begins (begin - 1)) place
stretch order begins place begin told some back less below t low high =
    let inside : begin - 1 < place = omega (arith, some, back) in
    ⊎_elim
    (λ (before : t < begin - 1). (let one = told.below (begin - 1) inside t low before in omega (arith, one, less)))
    (λ (behind : begin - 1 ≤ t). ⊎_elim
    (λ (same : begin - 1 ≡ t). (let here = ap (at_in order) same in omega (arith, here, less)))
    (λ (more : begin - 1 < t). below t (omega (arith, more)) high)
    (eq-or-lt_of_le behind))
    (cases_lt t (begin - 1))

pub stretch_back : (order begins : List ℕ) (place begin : ℕ) → Begins order begins place → 1 ≤ begin → begin ≤ place
    → at_in begins (begin - 1) < begin
stretch_back order begins place begin told some back =
    let inside : begin - 1 < place = omega (arith, some, back) in
    let one = told.back (begin - 1) inside in
    omega (arith, one, some)

pub none_below : (order : List ℕ) (place : ℕ) → AreBelow order place place
none_below order place t low high = absurd (omega (arith, low, high))

pub none_begun : (order : List ℕ) → Begins order [] 0
none_begun order = record { back = λ q h. absurd (omega (arith, h)); below = λ q h. absurd (omega (arith, h)) }

pub none_least : (order latest : List ℕ) → AreLeast order latest 0
none_least order latest q h = absurd (omega (arith, h))

kept : (begins : List ℕ) (b q : ℕ) → q < length begins → at_in (begins ++ b ∷ []) q ≡ at_in begins q
kept begins b q h = get_or_append_left begins (b ∷ []) 0 q h

last : (begins : List ℕ) (b q : ℕ) → length begins ≡ q → at_in (begins ++ b ∷ []) q ≡ b
last [] b zero e = refl
last [] b (suc q) e = absurd (omega (arith, e))
last (x ∷ xs) b zero e = absurd (omega (arith, e))
last (x ∷ xs) b (suc q) e = last xs b q (omega (arith, e))

-- where one more begins
pub begins_more : (order begins : List ℕ) (p b : ℕ) → Begins order begins p → length begins ≡ p → b ≤ p
    → AreBelow order b p → Begins order (begins ++ b ∷ []) (p + 1)
begins_more order begins p b told size back below = record {
  back = λ q h. ⊎_elim
      (λ (less : q < p). (let one = told.back q less in
      let same = kept begins b q (omega (arith, less, size)) in omega (arith, one, same)))
      (λ (ge : p ≤ q). (let e : length begins ≡ q = omega (arith, h, ge, size) in
      let same = last begins b q e in omega (arith, same, back, ge)))
      (cases_lt q p);
  below = λ q h t low high. ⊎_elim
      (λ (less : q < p). (let same = kept begins b q (omega (arith, less, size)) in
      told.below q less t (omega (arith, low, same)) high))
      (λ (ge : p ≤ q). (let e : length begins ≡ q = omega (arith, h, ge, size) in
      let q_is : q ≡ p = omega (arith, h, ge) in
      let same = last begins b q e in
      let one = below t (omega (arith, low, same)) (omega (arith, high, q_is)) in
      let here = ap (at_in order) q_is in
      omega (arith, one, here)))
      (cases_lt q p);
}

-- one more that stands where it may
pub least_more : (order latest : List ℕ) (p b : ℕ) → AreLeast order latest p
    → b ≤ at_in latest (at_in order p) → AreBelow order b p → AreLeast order latest (p + 1)
least_more order latest p b all early below q h t low high = ⊎_elim
    (λ (less : q < p). all q less t low high)
    (λ (ge : p ≤ q).
    (let q_is : q ≡ p = omega (arith, h, ge) in
    let same = ap (at_in order) q_is in
    let late = ap (λ (n : ℕ). at_in latest (at_in order n)) q_is in
    let one = below t (omega (arith, low, late, early)) (omega (arith, high, q_is)) in
    omega (arith, one, same)))
    (cases_lt q p)
