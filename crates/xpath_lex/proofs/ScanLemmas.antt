-- A text and its characters, where some are taken from its front.
use Rattle.std.proofs.Common.{◌≡◌, ℕ, ◌+◌, ◌≤◌, length-append, List, [], ◌∷◌, ◌++◌, length, take, Bool, true, false, MatchBool, refl, sym, ap, ◌∙◌, append-nil, arith}
use Rattle.std.proofs.lemmas.Str.{chars-append, length-le-encodes, chars_past_char, chars-nil, IsCharBoundary-from_take, IsUtf8-drop, encodes-chars, encodes-append}
use Rattle.std.proofs.Math.Seq.{take-append_seam, drop-append_seam}
use Rattle.std.specs.Char.{encode_utf8}
use Rattle.std.specs.Prelude.{encode_utf8_all}
use Rattle.std.specs.Str.{chars, IsUtf8}
use Rattle.xpath_lex.specs.Classes.{is_digit}
use Rattle.xpath_lex.specs.Readings.{ends_in_digit, size}

-- the bytes of a text are parted as its characters are
pub parted : (whole rest run : List ℕ) → IsUtf8 whole → IsUtf8 rest → chars whole ≡ run ++ chars rest → whole ≡ encode_utf8_all run ++ rest
parted whole rest run u v e =
    let back : encode_utf8_all (chars rest) ≡ rest = encodes-chars rest v in
    sym (encodes-chars whole u) ∙ ap encode_utf8_all e ∙ encodes-append run (chars rest) ∙ ap (λ x. encode_utf8_all run ++ x) back

pub front_length : (whole rest run : List ℕ) → IsUtf8 whole → IsUtf8 rest → chars whole ≡ run ++ chars rest → length whole ≡ length (encode_utf8_all run) + length rest
front_length whole rest run u v e = ap length (parted whole rest run u v e) ∙ length-append (encode_utf8_all run) rest

pub front_chars : (whole rest front run : List ℕ) (n : ℕ) → n ≡ length (encode_utf8_all run) → front ≡ take n whole → IsUtf8 front → IsUtf8 whole → IsUtf8 rest → chars whole ≡ run ++ chars rest
    → chars whole ≡ chars front ++ chars rest
front_chars whole rest front run n s f w u v e =
    let split = parted whole rest run u v e in
    let bytes : front ≡ encode_utf8_all run = f ∙ ap (λ k. take k whole) s ∙ ap (take (length (encode_utf8_all run))) split ∙ take-append_seam (encode_utf8_all run) rest in
    ap chars (split ∙ ap (λ b. b ++ rest) (sym bytes)) ∙ chars-append front rest w

-- the last character of a text
pub last_push : (xs : List ℕ) (c : ℕ) → ends_in_digit (xs ++ c ∷ []) ≡ is_digit c
last_push [] c = refl
last_push (x ∷ []) c = refl
last_push (x ∷ y ∷ ys) c = last_push (y ∷ ys) c

-- what stands behind a front of a text is a text
behind_front : (front rest : List ℕ) → IsUtf8 (front ++ rest) → IsUtf8 front → IsUtf8 rest
behind_front front rest u v =
    let fits : length front ≤ length (front ++ rest) = omega (arith, length-append front rest) in
    let cut : IsUtf8 (take (length front) (front ++ rest)) = rw (take-append_seam front rest) v in
    let at = IsCharBoundary-from_take (front ++ rest) (length front) u fits cut in
    rw (drop-append_seam front rest) at (IsUtf8-drop (front ++ rest) (length front) u at)

pub last_char : (text whole front : List ℕ) (c : ℕ) (r : Bool) → whole ≡ text → IsUtf8 text → whole ≡ front ++ encode_utf8 c → IsUtf8 front → r ≡ is_digit c → r ≡ ends_in_digit (chars text)
last_char text whole front c r s w e u h =
    let split : text ≡ front ++ encode_utf8 c = sym s ∙ e in
    let one = behind_front front (encode_utf8 c) (rw split at w) u in
    let single : chars (encode_utf8 c) ≡ c ∷ [] = chars_past_char (encode_utf8 c) [] c one (sym (append-nil (encode_utf8 c))) ∙ ap (λ x. c ∷ x) chars-nil in
    let all : chars text ≡ chars front ++ c ∷ [] = ap chars split ∙ chars-append front (encode_utf8 c) u ∙ ap (λ x. chars front ++ x) single in
    rw all (h ∙ sym (last_push (chars front) c))

pub last_none : (text whole : List ℕ) → whole ≡ text → length whole ≡ 0 → false ≡ ends_in_digit (chars text)
last_none text [] s e = rw (← s, chars-nil) refl
last_none text (b ∷ bs) s e = absurd (omega arith)

-- a text has no more characters than bytes
pub size_bound : (cs : List ℕ) (n : ℕ) → n ≡ size cs → length cs ≤ n
unfolding size
size_bound cs n e = let le = length-le-encodes cs in omega (arith, e, le)
