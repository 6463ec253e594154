-- References, and texts with one more character.
use Rattle.std.proofs.Common.{◌≡◌, ℕ, ◌/◌, ◌%◌, ◌<◌, ◌≤◌, List, [], ◌∷◌, ◌++◌, Bool, true, false, not, ◌||◌, nat_eq, refl, codes, append_assoc}
use Rattle.std.specs.Fmt.{digits, digit_glyph}
use Rattle.std.proofs.lemmas.Fmt.{hex_two_digits}
use Rattle.doc_writer.specs.Escapes.{reference, is_control, text_char, value_char}
use Rattle.doc_writer.specs.Plain.{is_plain_in_text, is_plain_in_value}

pub reference_tab : reference 9 ≡ codes "&#x9;"
unfolding reference digits
reference_tab = refl

pub reference_feed : reference 10 ≡ codes "&#xA;"
unfolding reference digits
reference_feed = refl

pub reference_return : reference 13 ≡ codes "&#xD;"
unfolding reference digits
reference_return = refl

pub reference_separator : reference 0x2028 ≡ codes "&#x2028;"
unfolding reference digits
reference_separator = refl

pub ruleset references = (reference_tab, reference_feed, reference_return, reference_separator)

-- the parts of a reference of two digits
pub reference_parts : (old a b d new : List ℕ) (c x y : ℕ) → 16 ≤ c → c < 256 → x ≡ digit_glyph true (c / 16) → y ≡ digit_glyph true (c % 16)
    → a ≡ old ++ codes "&#x" → b ≡ a ++ x ∷ [] → d ≡ b ++ y ∷ [] → new ≡ d ++ codes ";" → new ≡ old ++ reference c
unfolding reference
reference_parts old a b d new c x y low high i j e f g h = rw (h, g, f, e, i, j, hex_two_digits true c low high) (simp append_assoc)

-- a character that is written as it is
none_of : (a b d e f : Bool) → not ((((a || b) || d) || e) || f) ≡ true
    → (a ≡ false) × (b ≡ false) × (d ≡ false) × (e ≡ false) × (f ≡ false)
none_of false false false false false p = (refl, refl, refl, refl, refl)
none_of true b d e f p = cc
none_of false true d e f p = cc
none_of false false true e f p = cc
none_of false false false true f p = cc
none_of false false false false true p = cc

pub plain_text_char : (c : ℕ) → is_plain_in_text c ≡ true → text_char c ≡ c ∷ []
unfolding is_plain_in_text text_char
plain_text_char c p =
    let q = none_of (nat_eq c 38) (nat_eq c 60) (nat_eq c 62) (nat_eq c 13) (is_control c) p in
    rw (q.0, q.1, q.2, q.3, q.4)

none_of_more : (a b d e f g h : Bool) → not ((((((a || b) || d) || e) || f) || g) || h) ≡ true
    → (a ≡ false) × (b ≡ false) × (d ≡ false) × (e ≡ false) × (f ≡ false) × (g ≡ false) × (h ≡ false)
none_of_more false false d e f g h p = let q = none_of d e f g h p in (refl, refl, q.0, q.1, q.2, q.3, q.4)
none_of_more true b d e f g h p = cc
none_of_more false true d e f g h p = cc

pub plain_value_char : (c : ℕ) → is_plain_in_value c ≡ true → value_char c ≡ c ∷ []
unfolding is_plain_in_value value_char
plain_value_char c p =
    let q = none_of_more (nat_eq c 38) (nat_eq c 60) (nat_eq c 34) (nat_eq c 9) (nat_eq c 10) (nat_eq c 13) (is_control c) p in
    rw (q.0, q.1, q.2, q.3, q.4, q.5, q.6)
