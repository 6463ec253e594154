-- Numbers of a few digits.
use Rattle.std.proofs.Common.{◌≡◌, ℕ, zero, suc, ◌+◌, ◌*◌, ◌-◌, ◌≤◌, ◌<◌, List, [], ◌∷◌, length, Bool, true, false, not, ◌&&◌, ◌||◌, nat_le, refl, arith}
use Rattle.std.proofs.lemmas.Bool.{and_parts, leb-true}
use Rattle.xt_names.specs.Allowed.{is_empty_text}
use Rattle.sheet_values.specs.Priorities.{is_digit, are_digits, has_digits, number, whole_of, fraction_of, has_point, is_taken}
use Rattle.xt_names.specs.Characters.{digit}

-- so many digits write less than this
abbrev pub power : ℕ → ℕ
power zero = 1
power (suc k) = 10 * power k

power_positive : (k : ℕ) → 1 ≤ power k
power_positive zero = omega arith
power_positive (suc k) = let ih = power_positive k in omega (arith, ih)

power_grows : (k j : ℕ) → power k ≤ power (j + k)
power_grows k zero = let e : 0 + k ≡ k = omega arith in rw e (omega arith)
power_grows k (suc j) =
    let ih = power_grows k j in
    let e : suc j + k ≡ suc (j + k) = omega arith in
    rw e (omega (arith, ih))

power_small : (k : ℕ) → k ≤ 9 → power k ≤ 1000000000
power_small k h =
    let grown = power_grows k (9 - k) in
    let e : 9 - k + k ≡ 9 = omega (arith, h) in
    rw e at grown

-- a digit counts nine at most
digit_small : (c : ℕ) → is_digit c ≡ true → digit c ≤ 9
digit_small c h = let parts = and_parts (nat_le 48 c) (nat_le c 57) h in let le : c ≤ 57 = leb-true c 57 parts.1 in omega (arith, le)

-- what is written so far, where these digits are left of nine at most
abbrev pub IsSmall : ℕ → List ℕ → Type 0
IsSmall n cs = (length cs ≤ 9) × (n < power (9 - length cs))

pub number_begins : (cs : List ℕ) → length cs ≤ 9 → IsSmall 0 cs
number_begins cs h = (h, power_positive (9 - length cs))

pub number_goes_on : (n c : ℕ) (cs : List ℕ) → are_digits (c ∷ cs) ≡ true → IsSmall n (c ∷ cs) → IsSmall (10 * n + digit c) cs
number_goes_on n c cs a h =
    let d = digit_small c (and_parts (is_digit c) (are_digits cs) a).0 in
    let few : length cs ≤ 9 = omega (arith, h.0) in
    let e : 9 - length cs ≡ suc (9 - suc (length cs)) = omega (arith, h.0) in
    (few, rw e (omega (arith, h.1, d)))

pub bounded : (n : ℕ) (cs : List ℕ) → IsSmall n cs → n < 1000000000
bounded n cs h =
    let most = power_small (9 - length cs) (omega arith) in
    omega (arith, h.1, most)

pub number_ends : (n : ℕ) → IsSmall n [] → n < 1000000000
number_ends n h = h.1

pub digits_go_on : (c : ℕ) (cs : List ℕ) → are_digits (c ∷ cs) ≡ true → are_digits cs ≡ true
digits_go_on c cs a = (and_parts (is_digit c) (are_digits cs) a).1

pub ruleset numbers = (number_begins, number_goes_on, number_ends, digits_go_on)

-- what is taken has few digits
pub taken_digits : (cs : List ℕ) → is_taken cs ≡ true → are_digits (whole_of cs) ≡ true
taken_digits cs h =
    let whole = and_parts (has_digits 9 (whole_of cs)) (not (has_point cs) || has_digits 3 (fraction_of cs)) h in
    (and_parts (not (is_empty_text (whole_of cs)) && nat_le (length (whole_of cs)) 9) (are_digits (whole_of cs)) whole.0).1

pub taken_few : (cs : List ℕ) → is_taken cs ≡ true → length (whole_of cs) ≤ 9
taken_few cs h =
    let whole = and_parts (has_digits 9 (whole_of cs)) (not (has_point cs) || has_digits 3 (fraction_of cs)) h in
    let front = and_parts (not (is_empty_text (whole_of cs)) && nat_le (length (whole_of cs)) 9) (are_digits (whole_of cs)) whole.0 in
    leb-true (length (whole_of cs)) 9 (and_parts (not (is_empty_text (whole_of cs))) (nat_le (length (whole_of cs)) 9) front.0).1

pub ruleset taken = (taken_digits, taken_few)
