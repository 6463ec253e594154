-- The text of an integer spells that integer.
use Rattle.std.proofs.Common.{◌≡◌, ℕ, ◌<◌, List, [], ◌∷◌, Bool, true, false, Option, Some, None, Result, Ok, Err, ℤ, pos, negsuc, suc, refl, ap, ◌∙◌, arith, FitsSigned, w64}
use Rattle.std.proofs.lemmas.Bool.{ne_eqb, both_ways}
use Rattle.std.proofs.lemmas.Fmt.{decimal_is_IsNumeral, parse-signed_decimal}
use Rattle.std.proofs.lemmas.Str.Parse.{digit_from_value}
use Rattle.std.specs.Char.{digit_value}
use Rattle.std.specs.Fmt.{signed_decimal, decimal}
use Rattle.std.specs.Str.Parse.{ParsesSigned, AllDigits}
use Rattle.xt_names.specs.declared.kinds.AtomType.TheVariants as kind
use Rattle.xt_names.specs.Marks.{is_white}
use Rattle.xt_atoms.specs.AtomTexts.{text_of}
use Rattle.xt_atoms.specs.Casts.{cast_of, integer_from, spelled_value, with_value}
use Rattle.xt_atoms.specs.Lexical.{without_leading_white, without_trailing_white, with_front, trimmed, spells_integer, spelled_integer, integer_of}
use Rattle.xt_atoms.specs.declared.atoms.Atom.TheVariants as atom
use Rattle.xt_atoms.proofs.IntegerLemmas.{spells_from, spells_parts, spelled, unspelled}

not_white : (c : ℕ) → 32 < c → is_white c ≡ false
not_white c h = rw (ne_eqb c 32 (λ e. omega (arith, e)), ne_eqb c 9 (λ e. omega (arith, e)), ne_eqb c 10 (λ e. omega (arith, e)), ne_eqb c 13 (λ e. omega (arith, e))) refl

digit_not_white : (c : ℕ) → digit_value c < 10 → is_white c ≡ false
digit_not_white c h = let r = digit_from_value c h in not_white c (omega (arith, r.0))

front_stays : (c : ℕ) (cs : List ℕ) → is_white c ≡ false → with_front c cs ≡ c ∷ cs
front_stays c [] w = rw w refl
front_stays c (d ∷ ds) w = refl

trailing_stays : (cs : List ℕ) → AllDigits 10 cs → without_trailing_white cs ≡ cs
unfolding without_trailing_white
trailing_stays [] h = refl
trailing_stays (c ∷ cs) h = ap (with_front c) (trailing_stays cs h.1) ∙ front_stays c cs (digit_not_white c h.0)

leading_stays : (c : ℕ) (cs : List ℕ) → is_white c ≡ false → without_leading_white (c ∷ cs) ≡ c ∷ cs
unfolding without_leading_white
leading_stays c cs w = rw w refl

trailing_cons : (c : ℕ) (cs : List ℕ) → without_trailing_white (c ∷ cs) ≡ with_front c (without_trailing_white cs)
unfolding without_trailing_white
trailing_cons c cs = refl

-- white space is taken from neither end
stays : (c : ℕ) (cs : List ℕ) → is_white c ≡ false → AllDigits 10 cs → trimmed (c ∷ cs) ≡ c ∷ cs
unfolding trimmed
stays c cs w h = ap without_trailing_white (leading_stays c cs w) ∙ trailing_cons c cs ∙ ap (with_front c) (trailing_stays cs h) ∙ front_stays c cs w

nothing_stays : trimmed [] ≡ []
unfolding trimmed without_leading_white without_trailing_white
nothing_stays = refl

digits_stay : (cs : List ℕ) → AllDigits 10 cs → trimmed cs ≡ cs
digits_stay [] h = nothing_stays
digits_stay (c ∷ cs) h = stays c cs (digit_not_white c h.0) h.1

number_stays : (z : ℤ) → FitsSigned w64 z → trimmed (signed_decimal z) ≡ signed_decimal z
number_stays (pos n) f = let s = f.sfits in digits_stay (decimal n) (decimal_is_IsNumeral n (omega arith)).0.1
number_stays (negsuc n) f = let s = f.sfits in stays 45 (decimal (suc n)) refl (decimal_is_IsNumeral (suc n) (omega arith)).0.1

-- the answer of a `parse`
answer : Option ℤ → Result ℤ (Unit {0})
answer (Some z) = Ok z
answer None = Err tt

parses : (word : List ℕ) (b : Bool) → spells_integer word ≡ b → ParsesSigned w64 10 word (answer (spelled_integer word))
unfolding answer
parses word true e = rw (spelled word e) (spells_parts word e, refl)
parses word false e = rw (unspelled word e) (λ p. both_ways (spells_integer word) e (spells_from word p.0 p.1))

found : (o : Option ℤ) (z : ℤ) → answer o ≡ Ok z → o ≡ Some z
unfolding answer
found (Some x) z e = cc
found None z e = cc

pub read_back : (z : ℤ) → FitsSigned w64 z → integer_of (signed_decimal z) ≡ Some z
unfolding integer_of
read_back z f =
    let p = parse-signed_decimal w64 z (signed_decimal z) (answer (spelled_integer (signed_decimal z))) f f.sfits refl (parses (signed_decimal z) _ refl) in
    ap spelled_integer (number_stays z f) ∙ found _ z p

pub cast_back : (z : ℤ) → FitsSigned w64 z → cast_of (atom.Str (text_of (atom.Int z))) kind.Int ≡ Ok (atom.Int z)
unfolding cast_of integer_from text_of
cast_back z f = ap (λ (o : Option ℤ). with_value atom.Int (spelled_value o)) (read_back z f)
