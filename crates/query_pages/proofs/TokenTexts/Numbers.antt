-- Digits are read back as their number.
use Rattle.std.proofs.Common.{◌≡◌, ℕ, ◌+◌, ◌-◌, ◌*◌, ◌^◌, ◌<◌, ◌≤◌, pos}
use Rattle.std.proofs.Common.{List, [], ◌∷◌, ◌++◌, length}
use Rattle.std.proofs.Common.{true, false, Some, refl, ap, arith}
use Rattle.std.proofs.Common.{decimal, nat_le}
use Rattle.std.proofs.lemmas.Bool.{and_parts, leb-true}
use Rattle.std.proofs.Common.{le-leb}
use Rattle.std.proofs.lemmas.Str.Parse.{IsDigitsTest, FoldsDigits, IsNumeralModel, numerals_by_fold}
use Rattle.std.proofs.lemmas.Fmt.{digits_decimal, digits_value-decimal, decimal_is_IsNumeral}
use Rattle.std.specs.List.{list_all}
use Rattle.xpath_lex.specs.Classes.{is_digit}
use Rattle.xpath_lex.specs.Tokens.{Longest}
use Rattle.xpath_lex.specs.declared.lexing.TokenKind.TheVariants.{Integer}
use Rattle.xpath_lex.proofs.NameLemmas.{NoFraction, digits_longest}
use Rattle.expr_tokens.specs.Literals.{value, number_value}
use Rattle.xt_names.specs.Characters.{Ends}

abbrev All : List ℕ → Type 0
All ds = list_all is_digit ds ≡ true

tells : IsDigitsTest All
unfolding is_digit
tells = record {
  empty = refl;
  parts = λ c cs e. (let k = and_parts (is_digit c) (list_all is_digit cs) e in
      let m = and_parts (nat_le 48 c) (nat_le c 57) k.0 in
      ((leb-true 48 c m.0, leb-true c 57 m.1), k.1));
  more = λ c cs k e. rw (le-leb 48 c k.0, le-leb c 57 k.1) e;
}

folds : FoldsDigits value
unfolding value
folds = record {
  empty = λ n. refl;
  more = λ n c cs k. ap (λ m. value m cs) (let same : 10 * n + (c - 48) ≡ n * 10 + (c - 48) =
      omega arith in same);
}

model : IsNumeralModel All (value 0)
model = numerals_by_fold All tells value folds

pub all_digits : (n : ℕ) → n < 2 ^ 64 → list_all is_digit (decimal n) ≡ true
all_digits n h = digits_decimal model n h

pub reads_back : (n : ℕ) → n ≤ 9223372036854775807 → number_value (decimal n) ≡ Some (pos n)
unfolding number_value
reads_back n h =
    let same : value 0 (decimal n) ≡ n = digits_value-decimal model n (omega arith) in
    rw (same, le-leb n 9223372036854775807 h) refl

pub some_digits : (n : ℕ) → n < 2 ^ 64 → 0 < length (decimal n)
some_digits n h = (decimal_is_IsNumeral n h).0.0

pub longest_digits : (ds rest : List ℕ) → 0 < length ds → list_all is_digit ds ≡ true
    → Ends is_digit rest → NoFraction rest → Longest false (ds ++ rest) Integer ds rest
longest_digits [] rest h a e n = absurd (omega arith)
longest_digits (c ∷ ds) rest h a e n = digits_longest false c ds rest a e n
