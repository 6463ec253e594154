-- The characters that are written: none is a carriage return, and all are scalar values.
use Rattle.std.proofs.Common.{◌≡◌, ℕ, ◌<◌, ◌≤◌, ◌/◌, ◌%◌, List, [], ◌∷◌, ◌++◌, Bool, true, false, ◌&&◌, ◌||◌, ◌==◌, refl, sym, subst, arith, ⊎_elim}
use Rattle.std.specs.Prelude.{nat_le}
use Rattle.std.specs.Fmt.{digits, digit_glyph}
use Rattle.std.specs.List.{list_all, list_any}
use Rattle.std.proofs.lemmas.Bool.{and_parts, or_cases, or_parts, cond_both, leb-true, lt-ltb, le-ltb, eqb-true, false_from_ne_true}
use Rattle.std.proofs.lemmas.Bool.Decides.{nat_tests}
use Rattle.std.proofs.lemmas.Fmt.{hex_one_digit, hex_two_digits}
use Rattle.std.proofs.lemmas.List.Folds.{list_all-append}
use Rattle.xt_names.specs.Classes.{is_in_ranges, xml_char_ranges, ncname_char_ranges, is_xml_text, is_ncname_text, begins_name}
use Rattle.doc_grammar.specs.Lines.{lines_behind}
use Rattle.doc_writer.specs.Escapes.{reference, is_control, text_char, value_char, escaped_text, escaped_value}
use Rattle.doc_writer.specs.Readable.{has_return}
use Rattle.doc_laws.proofs.Ranges.{in_range, in_ranges}
use lib.Utf8.{scalar, scalars}
use Rattle.xt_names.proofs.BoolLemmas.{no}

-- the characters of XML without the carriage return
abbrev pub clean_ranges : List (ℕ × ℕ)
clean_ranges = (0x9, 0x9) ∷ (0xA, 0xA) ∷ (0x20, 0xD7FF) ∷ (0xE000, 0xFFFD) ∷ (0x1_0000, 0x10_FFFF) ∷ []

abbrev pub are_clean : List ℕ → Bool
are_clean cs = list_all (is_in_ranges clean_ranges) cs

pub clean_join : (a b : List ℕ) → are_clean a ≡ true → are_clean b ≡ true → are_clean (a ++ b) ≡ true
clean_join a b x y = rw (list_all-append (is_in_ranges clean_ranges) a b, x, y) refl

-- what they are not

return_unclean : is_in_ranges clean_ranges 13 ≡ false
unfolding is_in_ranges
return_unclean = refl

clean_is_not : (c : ℕ) → is_in_ranges clean_ranges c ≡ true → (c == 13) ≡ false
clean_is_not c e =
    let P : ℕ → Type 0 = λ x. is_in_ranges clean_ranges x ≡ true in
    false_from_ne_true (c == 13) (λ d. no (subst P (eqb-true c 13 d) e) return_unclean)

pub lines_same : (cs : List ℕ) → are_clean cs ≡ true → lines_behind false cs ≡ cs
lines_same [] e = refl
lines_same (c ∷ cs) e =
    let parts = and_parts (is_in_ranges clean_ranges c) (are_clean cs) e in
    let ih = lines_same cs parts.1 in
    rw (clean_is_not c parts.0, ih) refl

-- what they are

abbrev scalar_ranges : List (ℕ × ℕ)
scalar_ranges = (0, 55295) ∷ (57344, 1114111) ∷ []

range_scalar : (c : ℕ) → is_in_ranges scalar_ranges c ≡ true → scalar c ≡ true
unfolding is_in_ranges
range_scalar c e = ⊎_elim low (λ f. ⊎_elim high (λ x. no x refl) (or_cases (nat_le 57344 c && nat_le c 1114111) false f)) (or_cases (nat_le 0 c && nat_le c 55295) ((nat_le 57344 c && nat_le c 1114111) || false) e)
  where
    low : (nat_le 0 c && nat_le c 55295) ≡ true → scalar c ≡ true
    low x = let most = leb-true c 55295 (and_parts (nat_le 0 c) (nat_le c 55295) x).1 in rw (lt-ltb c 55296 (omega arith)) refl

    high : (nat_le 57344 c && nat_le c 1114111) ≡ true → scalar c ≡ true
    high x =
        let parts = and_parts (nat_le 57344 c) (nat_le c 1114111) x in
        let least = leb-true 57344 c parts.0 in
        let most = leb-true c 1114111 parts.1 in
        rw (le-ltb c 55296 (omega arith), parts.0, lt-ltb c 1114112 (omega arith)) refl

pub scalars_clean : (cs : List ℕ) → are_clean cs ≡ true → scalars cs ≡ true
scalars_clean [] e = refl
scalars_clean (c ∷ cs) e =
    let parts = and_parts (is_in_ranges clean_ranges c) (are_clean cs) e in
    let more = scalars_clean cs parts.1 in
    rw (range_scalar c (in_ranges scalar_ranges clean_ranges c refl parts.0), more) refl

-- which characters are among them

char_clean : (c : ℕ) → is_in_ranges xml_char_ranges c ≡ true → (c == 13) ≡ false → is_in_ranges clean_ranges c ≡ true
unfolding is_in_ranges
char_clean c e n = ⊎_elim (λ x. one 9 refl x) (λ x. ⊎_elim (λ y. one 10 refl y) (λ y. ⊎_elim third (λ z. in_ranges clean_ranges more c refl z) (or_cases (nat_le 13 c && nat_le c 13) (is_in_ranges more c) y)) (or_cases (nat_le 10 c && nat_le c 10) ((nat_le 13 c && nat_le c 13) || is_in_ranges more c) x)) (or_cases (nat_le 9 c && nat_le c 9) ((nat_le 10 c && nat_le c 10) || ((nat_le 13 c && nat_le c 13) || is_in_ranges more c)) e)
  where
    more : List (ℕ × ℕ)
    more = (0x20, 0xD7FF) ∷ (0xE000, 0xFFFD) ∷ (0x1_0000, 0x10_FFFF) ∷ []

    one : (d : ℕ) → list_any (λ (s : ℕ × ℕ). nat_le s.0 d && nat_le d s.1) clean_ranges ≡ true → (nat_le d c && nat_le c d) ≡ true → is_in_ranges clean_ranges c ≡ true
    one d h x = let parts = and_parts (nat_le d c) (nat_le c d) x in in_range clean_ranges (d, d) c h (leb-true d c parts.0) (leb-true c d parts.1)

    third : (nat_le 13 c && nat_le c 13) ≡ true → is_in_ranges clean_ranges c ≡ true
    third x =
        let parts = and_parts (nat_le 13 c) (nat_le c 13) x in
        let low = leb-true 13 c parts.0 in
        let high = leb-true c 13 parts.1 in
        let same : c ≡ 13 = omega arith in
        absurd (grind (arith, nat_tests))

pub name_clean : (t : List ℕ) → is_ncname_text t ≡ true → are_clean t ≡ true
unfolding is_ncname_text
name_clean t e = go t (and_parts (begins_name t) (list_all (is_in_ranges ncname_char_ranges) t) e).1
  where
    go : (cs : List ℕ) → list_all (is_in_ranges ncname_char_ranges) cs ≡ true → are_clean cs ≡ true
    go [] x = refl
    go (c ∷ cs) x =
        let parts = and_parts (is_in_ranges ncname_char_ranges c) (list_all (is_in_ranges ncname_char_ranges) cs) x in
        let more = go cs parts.1 in
        rw (in_ranges clean_ranges ncname_char_ranges c refl parts.0, more) refl

pub text_clean : (t : List ℕ) → is_xml_text t ≡ true → has_return t ≡ false → are_clean t ≡ true
unfolding is_xml_text
text_clean [] x n = refl
text_clean (c ∷ cs) x n =
    let parts = and_parts (is_in_ranges xml_char_ranges c) (list_all (is_in_ranges xml_char_ranges) cs) x in
    let none = or_parts (c == 13) (has_return cs) n in
    let more = text_clean cs parts.1 none.1 in
    rw (char_clean c parts.0 none.0, more) refl

-- references

glyph_clean : (d : ℕ) → d < 16 → is_in_ranges clean_ranges (digit_glyph true d) ≡ true
glyph_clean d h = in_range clean_ranges (0x20, 0xD7FF) (digit_glyph true d) (refl_range) (grind (arith, nat_tests)) (grind (arith, nat_tests))
  where
    refl_range : list_any (λ (s : ℕ × ℕ). nat_le s.0 0x20 && nat_le 0xD7FF s.1) clean_ranges ≡ true
    refl_range = refl

short_clean : (c : ℕ) → c < 16 → are_clean (reference c) ≡ true
unfolding reference is_in_ranges
short_clean c h = let g : is_in_ranges clean_ranges (digit_glyph true c) ≡ true = glyph_clean c h in rw (hex_one_digit true c h, g) refl

long_clean : (c : ℕ) → 16 ≤ c → c < 256 → are_clean (reference c) ≡ true
unfolding reference is_in_ranges
long_clean c low high =
    let g : is_in_ranges clean_ranges (digit_glyph true (c / 16)) ≡ true = glyph_clean (c / 16) (omega arith) in
    let h : is_in_ranges clean_ranges (digit_glyph true (c % 16)) ≡ true = glyph_clean (c % 16) (omega arith) in
    rw (hex_two_digits true c low high, g, h) refl

separator_clean : are_clean (reference 0x2028) ≡ true
unfolding reference digits is_in_ranges
separator_clean = refl

control_clean : (c : ℕ) → is_control c ≡ true → are_clean (reference c) ≡ true
control_clean c h = ⊎_elim low high (or_cases (nat_le 0x7F c && nat_le c 0x9F) (c == 0x2028) h)
  where
    low : (nat_le 0x7F c && nat_le c 0x9F) ≡ true → are_clean (reference c) ≡ true
    low e =
        let parts = and_parts (nat_le 0x7F c) (nat_le c 0x9F) e in
        let above = leb-true 0x7F c parts.0 in
        let below = leb-true c 0x9F parts.1 in
        long_clean c (omega arith) (omega arith)

    high : (c == 0x2028) ≡ true → are_clean (reference c) ≡ true
    high e = let P : ℕ → Type 0 = λ x. are_clean (reference x) ≡ true in subst P (sym (eqb-true c 0x2028 e)) separator_clean

low_clean : (c d : ℕ) → (c == d) ≡ true → d < 16 → are_clean (reference c) ≡ true
low_clean c d e h = let same = eqb-true c d e in short_clean c (omega arith)

return_clean : (c : ℕ) → (c == 13 || is_control c) ≡ true → are_clean (reference c) ≡ true
return_clean c h = ⊎_elim (λ e. low_clean c 13 e (omega arith)) (control_clean c) (or_cases (c == 13) (is_control c) h)

space_clean : (c : ℕ) → (c == 9 || c == 10 || c == 13 || is_control c) ≡ true → are_clean (reference c) ≡ true
space_clean c h = ⊎_elim third (control_clean c) (or_cases ((c == 9 || c == 10) || c == 13) (is_control c) h)
  where
    first : (c == 9 || c == 10) ≡ true → are_clean (reference c) ≡ true
    first x = ⊎_elim (λ e. low_clean c 9 e (omega arith)) (λ e. low_clean c 10 e (omega arith)) (or_cases (c == 9) (c == 10) x)

    third : (c == 9 || c == 10 || c == 13) ≡ true → are_clean (reference c) ≡ true
    third x = ⊎_elim first (λ e. low_clean c 13 e (omega arith)) (or_cases (c == 9 || c == 10) (c == 13) x)

-- texts and values

itself_clean : (c : ℕ) → is_in_ranges xml_char_ranges c ≡ true → (c == 13) ≡ false → are_clean (c ∷ []) ≡ true
itself_clean c p e = let x = char_clean c p e in rw x refl

text_char_clean : (c : ℕ) → is_in_ranges xml_char_ranges c ≡ true → are_clean (text_char c) ≡ true
unfolding text_char is_in_ranges
text_char_clean c p =
    let P : List ℕ → Type 0 = λ x. are_clean x ≡ true in
    cond_both (c == 38) _ _ P (λ _. refl) (λ _. cond_both (c == 60) _ _ P (λ _. refl) (λ _. cond_both (c == 62) _ _ P (λ _. refl) (λ _.
    cond_both (c == 13 || is_control c) (reference c) (c ∷ []) P (return_clean c) (λ e. itself_clean c p (or_parts (c == 13) (is_control c) e).0))))

value_char_clean : (c : ℕ) → is_in_ranges xml_char_ranges c ≡ true → are_clean (value_char c) ≡ true
unfolding value_char is_in_ranges
value_char_clean c p =
    let P : List ℕ → Type 0 = λ x. are_clean x ≡ true in
    cond_both (c == 38) _ _ P (λ _. refl) (λ _. cond_both (c == 60) _ _ P (λ _. refl) (λ _. cond_both (c == 34) _ _ P (λ _. refl) (λ _.
    cond_both (c == 9 || c == 10 || c == 13 || is_control c) (reference c) (c ∷ []) P (space_clean c)
    (λ e. itself_clean c p (or_parts (c == 9 || c == 10) (c == 13) (or_parts ((c == 9 || c == 10) || c == 13) (is_control c) e).0).1))))

pub escaped_text_clean : (t : List ℕ) → is_xml_text t ≡ true → are_clean (escaped_text t) ≡ true
unfolding is_xml_text
escaped_text_clean [] x = refl
escaped_text_clean (c ∷ cs) x =
    let parts = and_parts (is_in_ranges xml_char_ranges c) (list_all (is_in_ranges xml_char_ranges) cs) x in
    clean_join (text_char c) (escaped_text cs) (text_char_clean c parts.0) (escaped_text_clean cs parts.1)

pub escaped_value_clean : (t : List ℕ) → is_xml_text t ≡ true → are_clean (escaped_value t) ≡ true
unfolding is_xml_text
escaped_value_clean [] x = refl
escaped_value_clean (c ∷ cs) x =
    let parts = and_parts (is_in_ranges xml_char_ranges c) (list_all (is_in_ranges xml_char_ranges) cs) x in
    clean_join (value_char c) (escaped_value cs) (value_char_clean c parts.0) (escaped_value_clean cs parts.1)
