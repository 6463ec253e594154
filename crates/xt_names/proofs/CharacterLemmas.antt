-- Which characters are of which class.
use Rattle.std.proofs.Common.{◌≡◌, ℕ, arith, Bool, true, false, ◌&&◌, ◌==◌, ◌<◌, inl, inr, refl, sym, subst, eq-eqb}
use Rattle.std.proofs.lemmas.Bool.{eqb-true, false_from_ne_true, lt-leb}
use Rattle.std.specs.Char.{OutOfScalarRange}
use Rattle.std.specs.Prelude.{nat_le}
use Rattle.xt_names.specs.Characters.{is_space, is_char, starts_name, is_name_char, is_quote}
use Rattle.xt_names.specs.Classes.{is_in_ranges, ncname_start_ranges}
use Rattle.xt_names.proofs.BoolLemmas.{no, one_of}
use Rattle.xt_names.proofs.ClassLemmas.{more_ranges}

-- a character is itself
pub itself : (c : ℕ) → (c == c) ≡ true
itself c = eq-eqb c c refl

-- a character of a class is none that is not of the class
pub is_other : (class : ℕ → Bool) (c d : ℕ) → class c ≡ true → class d ≡ false → (c == d) ≡ false
is_other class c d x y =
    let P : ℕ → Type 0 = λ n. class n ≡ true in
    false_from_ne_true (c == d) (λ e. no (subst P (eqb-true c d e) x) y)

pub colon_name : is_name_char 58 ≡ false
unfolding is_name_char is_in_ranges
colon_name = refl

-- what starts a name may be in one
pub name_starts : (c : ℕ) → starts_name c ≡ true → is_name_char c ≡ true
unfolding starts_name is_name_char
name_starts c s = more_ranges ncname_start_ranges _ c s

-- what holds of each white space character
pub space_cases : (P : ℕ → Type 0) (c : ℕ) → P 32 → P 9 → P 10 → P 13 → is_space c ≡ true → P c
unfolding is_space
space_cases P c a b d e s =
    let is = λ (n : ℕ) (p : P n) (q : (c == n) ≡ true). subst P (sym (eqb-true c n q)) p in
    one_of (P c) _ _ (one_of (P c) _ _ (one_of (P c) _ _ (is 32 a) (is 9 b)) (is 10 d)) (is 13 e) s

-- no name has white space
pub space_name : (c : ℕ) → is_space c ≡ true → is_name_char c ≡ false
unfolding is_name_char is_in_ranges
space_name c s = let P : ℕ → Type 0 = λ x. is_name_char x ≡ false in space_cases P c refl refl refl refl s

-- no quote is white space
pub space_quote : (c : ℕ) → is_space c ≡ true → is_quote c ≡ false
unfolding is_quote
space_quote c s = let P : ℕ → Type 0 = λ x. is_quote x ≡ false in space_cases P c refl refl refl refl s

-- a number is in no range that begins after it or ends before it
below : (a b n : ℕ) → n < a → (nat_le a n && nat_le n b) ≡ false
below a b n h = rw (lt-leb a n h) refl

above : (a b n : ℕ) → b < n → (nat_le a n && nat_le n b) ≡ false
above a b n h = rw (lt-leb n b h) (no_second (nat_le a n)) where
  no_second : (x : Bool) → (x && false) ≡ false
  no_second true = refl
  no_second false = refl

-- a number that is no scalar value is no character
pub no_scalar : (n : ℕ) → OutOfScalarRange n → is_char n ≡ false
unfolding is_char is_in_ranges
no_scalar n (inl h) =
    rw (above 0x9 0x9 n (omega arith), above 0xA 0xA n (omega arith), above 0xD 0xD n (omega arith), above 0x20 0xD7FF n (omega arith), below 0xE000 0xFFFD n (omega arith), below 0x1_0000 0x10_FFFF n (omega arith)) refl
no_scalar n (inr h) =
    rw (above 0x9 0x9 n (omega arith), above 0xA 0xA n (omega arith), above 0xD 0xD n (omega arith), above 0x20 0xD7FF n (omega arith), above 0xE000 0xFFFD n (omega arith), above 0x1_0000 0x10_FFFF n (omega arith)) refl
