-- Texts from which white space is taken at one end.
use Rattle.std.proofs.Common.{◌≡◌, ℕ, List, [], ◌∷◌, ◌++◌, true, false, length, refl, sym, ◌∙◌, ap, append-nil}
use Rattle.std.proofs.lemmas.Str.{chars_past_char, chars-nil, chars-append, IsUtf8-encode}
use Rattle.std.specs.Str.{chars, IsUtf8}
use Rattle.std.specs.Char.{encode_utf8, IsScalar}
use Rattle.xt_names.specs.Marks.{is_white}
use Rattle.xt_atoms.specs.Lexical.{without_leading_white, without_trailing_white, with_front}

white_goes : (c : ℕ) (cs : List ℕ) → is_white c ≡ true → without_leading_white (c ∷ cs) ≡ without_leading_white cs
unfolding without_leading_white
white_goes c cs w = rw w refl

other_stays : (c : ℕ) (cs : List ℕ) → is_white c ≡ false → without_leading_white (c ∷ cs) ≡ c ∷ cs
unfolding without_leading_white
other_stays c cs w = rw w refl

nothing_leading : without_leading_white [] ≡ []
unfolding without_leading_white
nothing_leading = refl

-- one more character of white space is gone
pub leading_more : (bs rest kept : List ℕ) (c : ℕ) → IsUtf8 bs → bs ≡ encode_utf8 c ++ rest → is_white c ≡ true
    → without_leading_white (chars bs) ≡ kept → without_leading_white (chars rest) ≡ kept
leading_more bs rest kept c u e w k = sym (ap without_leading_white (chars_past_char bs rest c u e) ∙ white_goes c (chars rest) w) ∙ k

-- another character stays, with all after it
pub leading_ends : (bs rest kept : List ℕ) (c : ℕ) → IsUtf8 bs → bs ≡ encode_utf8 c ++ rest → is_white c ≡ false
    → without_leading_white (chars bs) ≡ kept → chars bs ≡ kept
leading_ends bs rest kept c u e w k =
    let p = chars_past_char bs rest c u e in
    p ∙ sym (other_stays c (chars rest) w) ∙ sym (ap without_leading_white p) ∙ k

empty_from_length : (bs : List ℕ) → length bs ≡ 0 → bs ≡ []
empty_from_length [] e = refl
empty_from_length (b ∷ bs) e = cc

pub leading_all : (bs kept : List ℕ) → length bs ≡ 0 → without_leading_white (chars bs) ≡ kept → chars bs ≡ kept
leading_all bs kept e k =
    let p : chars bs ≡ [] = ap chars (empty_from_length bs e) ∙ chars-nil in
    p ∙ sym nothing_leading ∙ sym (ap without_leading_white p) ∙ k

-- at the end
white_last : (c : ℕ) → is_white c ≡ true → with_front c [] ≡ []
white_last c w = rw w refl

other_last : (c : ℕ) → is_white c ≡ false → with_front c [] ≡ c ∷ []
other_last c w = rw w refl

nothing_trailing : without_trailing_white [] ≡ []
unfolding without_trailing_white
nothing_trailing = refl

white_behind : (cs : List ℕ) (c : ℕ) → is_white c ≡ true → without_trailing_white (cs ++ c ∷ []) ≡ without_trailing_white cs
unfolding without_trailing_white
white_behind [] c w = white_last c w
white_behind (x ∷ xs) c w = ap (with_front x) (white_behind xs c w)

in_front : (x y : ℕ) (ys : List ℕ) → with_front x (ys ++ y ∷ []) ≡ x ∷ (ys ++ y ∷ [])
in_front x y [] = refl
in_front x y (z ∷ zs) = refl

other_behind : (cs : List ℕ) (c : ℕ) → is_white c ≡ false → without_trailing_white (cs ++ c ∷ []) ≡ cs ++ c ∷ []
unfolding without_trailing_white
other_behind [] c w = other_last c w
other_behind (x ∷ xs) c w = ap (with_front x) (other_behind xs c w) ∙ in_front x c xs

chars_before : (bs rest : List ℕ) (c : ℕ) → IsUtf8 rest → IsScalar c → bs ≡ rest ++ encode_utf8 c → chars bs ≡ chars rest ++ c ∷ []
chars_before bs rest c u s e =
    let one : chars (encode_utf8 c) ≡ c ∷ chars [] = chars_past_char (encode_utf8 c) [] c (IsUtf8-encode c s) (sym (append-nil (encode_utf8 c))) in
    let f : chars (encode_utf8 c) ≡ c ∷ [] = one ∙ ap (λ (ds : List ℕ). c ∷ ds) chars-nil in
    ap chars e ∙ chars-append rest (encode_utf8 c) u ∙ ap (λ (ds : List ℕ). chars rest ++ ds) f

pub trailing_more : (bs rest kept : List ℕ) (c : ℕ) → IsUtf8 rest → IsScalar c → bs ≡ rest ++ encode_utf8 c → is_white c ≡ true
    → without_trailing_white (chars bs) ≡ kept → without_trailing_white (chars rest) ≡ kept
trailing_more bs rest kept c u s e w k = sym (ap without_trailing_white (chars_before bs rest c u s e) ∙ white_behind (chars rest) c w) ∙ k

pub trailing_ends : (bs rest kept : List ℕ) (c : ℕ) → IsUtf8 rest → IsScalar c → bs ≡ rest ++ encode_utf8 c → is_white c ≡ false
    → without_trailing_white (chars bs) ≡ kept → chars bs ≡ kept
trailing_ends bs rest kept c u s e w k =
    let p = chars_before bs rest c u s e in
    p ∙ sym (other_behind (chars rest) c w) ∙ sym (ap without_trailing_white p) ∙ k

pub trailing_all : (bs kept : List ℕ) → length bs ≡ 0 → without_trailing_white (chars bs) ≡ kept → chars bs ≡ kept
trailing_all bs kept e k =
    let p : chars bs ≡ [] = ap chars (empty_from_length bs e) ∙ chars-nil in
    p ∙ sym nothing_trailing ∙ sym (ap without_trailing_white p) ∙ k
