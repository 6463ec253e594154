-- Which characters are of which class.
use Rattle.std.proofs.Common.{◌≡◌, ℕ, List, [], ◌∷◌, arith, Bool, true, false, not, ◌||◌, ◌&&◌, ◌==◌, refl, sym, subst}
use Rattle.std.proofs.lemmas.Bool.{eqb-true, false_from_ne_true, and_parts}
use Rattle.std.specs.Prelude.{nat_lt, ◌≤◌}
use Rattle.std.specs.List.{list_any, list_all}
use Rattle.xt_names.specs.Classes.{is_in_ranges, ncname_start_ranges}
use Rattle.xpath_lex.specs.Classes.{is_digit, singles, is_single, doubles, is_double}
use Rattle.xt_names.proofs.BoolLemmas.{no, not_true, one_of}
use Rattle.xt_names.specs.Characters.{is_space, is_char, starts_name, is_quote}

pub not_false : {b : Bool} → b ≡ false → not b ≡ true
not_false {b = true} e = absurd (cc)
not_false {b = false} e = refl

-- what holds of each character of a list holds of one that is among them
pub among : (p : ℕ → Bool) (c : ℕ) (xs : List ℕ) → list_all p xs ≡ true → list_any (λ s. c == s) xs ≡ true → p c ≡ true
among p c [] a e = absurd (cc)
among p c (x ∷ xs) a e =
    let P : ℕ → Type 0 = λ y. p y ≡ true in
    let parts = and_parts (p x) (list_all p xs) a in
    one_of (P c) (c == x) _ (λ h. subst P (sym (eqb-true c x h)) parts.0) (among p c xs parts.1) e

-- the same of pairs and their first characters
pub among_pairs : (p : ℕ → Bool) (c d : ℕ) (xs : List (ℕ × ℕ)) → list_all (λ s. p s.0) xs ≡ true → list_any (λ s. c == s.0 && d == s.1) xs ≡ true → p c ≡ true
among_pairs p c d [] a e = absurd (cc)
among_pairs p c d (x ∷ xs) a e =
    let P : ℕ → Type 0 = λ y. p y ≡ true in
    let parts = and_parts (p x.0) (list_all (λ s. p s.0) xs) a in
    one_of (P c) (c == x.0 && d == x.1) _ (λ h. subst P (sym (eqb-true c x.0 (and_parts (c == x.0) (d == x.1) h).0)) parts.0) (among_pairs p c d xs parts.1) e

-- the character is none of a class
abbrev pub is_no : (ℕ → Bool) → ℕ → Bool
is_no p c = not (p c)

-- names, digits, quotes and symbols begin differently

-- a character is in no range that ends before it or begins after it
outside : (low high c : ℕ) (rs : List (ℕ × ℕ)) → list_all (λ r. nat_lt r.1 low || nat_lt high r.0) rs ≡ true → low ≤ c → c ≤ high → is_in_ranges rs c ≡ false
unfolding is_in_ranges
outside low high c [] a l h = refl
outside low high c (r ∷ rs) a l h =
    let parts = and_parts (nat_lt r.1 low || nat_lt high r.0) _ a in
    grind (arith, outside low high c rs parts.1 l h, parts.0)

pub digit_name : (c : ℕ) → is_digit c ≡ true → starts_name c ≡ false
unfolding is_digit starts_name
digit_name c h =
    let low : 48 ≤ c = grind (arith, h) in
    let high : c ≤ 57 = grind (arith, h) in outside 48 57 c ncname_start_ranges refl low high

pub name_digit : (c : ℕ) → starts_name c ≡ true → is_digit c ≡ false
name_digit c h = false_from_ne_true (is_digit c) (λ d. no h (digit_name c d))

pub name_quote : (c : ℕ) → starts_name c ≡ true → is_quote c ≡ false
unfolding starts_name is_quote is_in_ranges
name_quote c h = grind (arith)

pub digit_quote : (c : ℕ) → is_digit c ≡ true → is_quote c ≡ false
unfolding is_digit is_quote
digit_quote c h = grind (arith)

pub quote_digit : (c : ℕ) → is_quote c ≡ true → is_digit c ≡ false
quote_digit c h = false_from_ne_true (is_digit c) (λ d. no h (digit_quote c d))

pub quote_name : (c : ℕ) → is_quote c ≡ true → starts_name c ≡ false
quote_name c h = false_from_ne_true (starts_name c) (λ d. no h (name_quote c d))

pub single_digit : (c : ℕ) → is_single c ≡ true → is_digit c ≡ false
unfolding is_single is_digit
single_digit c h = not_true (among (is_no is_digit) c singles refl h)

pub single_quote : (c : ℕ) → is_single c ≡ true → is_quote c ≡ false
unfolding is_single is_quote
single_quote c h = not_true (among (is_no is_quote) c singles refl h)

pub single_name : (c : ℕ) → is_single c ≡ true → starts_name c ≡ false
unfolding is_single starts_name is_in_ranges
single_name c h = not_true (among (is_no starts_name) c singles refl h)

pub double_digit : (c d : ℕ) → is_double c d ≡ true → is_digit c ≡ false
unfolding is_double is_digit
double_digit c d h = not_true (among_pairs (is_no is_digit) c d doubles refl h)

pub double_quote : (c d : ℕ) → is_double c d ≡ true → is_quote c ≡ false
unfolding is_double is_quote
double_quote c d h = not_true (among_pairs (is_no is_quote) c d doubles refl h)

pub double_name : (c d : ℕ) → is_double c d ≡ true → starts_name c ≡ false
unfolding is_double starts_name is_in_ranges
double_name c d h = not_true (among_pairs (is_no starts_name) c d doubles refl h)

pub double_star : (c d : ℕ) → is_double c d ≡ true → (c == 42) ≡ false
unfolding is_double
double_star c d h = not_true (among_pairs (is_no (λ x. x == 42)) c d doubles refl h)

pub star_digit : is_digit 42 ≡ false
unfolding is_digit
star_digit = refl

pub star_quote : is_quote 42 ≡ false
unfolding is_quote
star_quote = refl

pub star_name : starts_name 42 ≡ false
unfolding starts_name is_in_ranges
star_name = refl

pub point_digit : is_digit 46 ≡ false
unfolding is_digit
point_digit = refl

pub open_digit : is_digit 40 ≡ false
unfolding is_digit
open_digit = refl

pub open_quote : is_quote 40 ≡ false
unfolding is_quote
open_quote = refl

pub point_quote : is_quote 46 ≡ false
unfolding is_quote
point_quote = refl

pub open_name : starts_name 40 ≡ false
unfolding starts_name is_in_ranges
open_name = refl

pub point_name : starts_name 46 ≡ false
unfolding starts_name is_in_ranges
point_name = refl

pub open_space : is_space 40 ≡ false
unfolding is_space
open_space = refl

pub open_char : is_char 40 ≡ true
unfolding is_char is_in_ranges
open_char = refl

pub colon_char : is_char 58 ≡ true
unfolding is_char is_in_ranges
colon_char = refl
