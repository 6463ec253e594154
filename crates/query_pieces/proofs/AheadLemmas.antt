-- What is left after the tokens of a text.
use Rattle.std.proofs.Common.{◌≡◌, ℕ, ◌+◌, List, [], ◌∷◌, ◌++◌, length, length-append, take, drop}
use Rattle.std.proofs.Common.{Bool, true, false, refl, sym, ap, ◌∙◌, append_assoc, arith}
use Rattle.std.proofs.Math.Seq.{drop-append_seam}
use Rattle.std.proofs.lemmas.Bool.{and_parts}
use Rattle.std.proofs.lemmas.Str.{chars-nil, chars-encodes, encodes-chars, encodes-append}
use Rattle.std.proofs.lemmas.Str.{IsCharBoundary-at_seam}
use Rattle.std.specs.Prelude.{encode_utf8_all}
use Rattle.std.specs.Str.{chars, IsUtf8, IsCharBoundary, all_scalars}
use Rattle.xpath_lex.specs.Gaps.{Comment, over, nested, passes, Gap, none, space, comment}
use Rattle.xpath_lex.specs.Readings.{Placed, size, ends_in_digit, TokenAt, IsOver, FaultAt}

scalars_behind : (front rest : List ℕ) → all_scalars (front ++ rest) ≡ true
    → all_scalars rest ≡ true
scalars_behind [] rest h = h
scalars_behind (c ∷ cs) rest h = scalars_behind cs rest (and_parts _ _ h).1

-- the bytes that come after the first characters are a text
pub record Cut (text rest : List ℕ) (to : ℕ) : Type 0 where
  pub bytes : drop to text ≡ encode_utf8_all rest
  pub boundary : IsCharBoundary text to
  pub characters : chars (encode_utf8_all rest) ≡ rest

pub cut : (text front rest : List ℕ) (to : ℕ) → IsUtf8 text → chars text ≡ front ++ rest
    → to + size rest ≡ length text → Cut text rest to
unfolding size
cut text front rest to u e s =
    let all : chars text ≡ u.0 = ap chars (sym u.1.1) ∙ chars-encodes u.0 u.1.0 in
    let parts : u.0 ≡ front ++ rest = sym all ∙ e in
    let whole : text ≡ encode_utf8_all front ++ encode_utf8_all rest = sym u.1.1
    ∙ ap encode_utf8_all parts ∙ encodes-append front rest in
    let fine : all_scalars rest ≡ true = scalars_behind front rest (rw parts at u.1.0) in
    let long = ap length whole ∙ length-append (encode_utf8_all front) (encode_utf8_all rest) in
    let at : to ≡ length (encode_utf8_all front) = omega (arith, long, s) in
    record {
      bytes = rw (at, whole) (drop-append_seam (encode_utf8_all front) (encode_utf8_all rest));
      boundary = rw at (IsCharBoundary-at_seam text (encode_utf8_all front)
          (encode_utf8_all rest) whole (rest, (fine, refl)));
      characters = chars-encodes rest fine;
    }

comment_front : {ts rest : List ℕ} → Comment ts rest → (front : List ℕ) × (ts ≡ front ++ rest)
comment_front (over {ts = ts}) = (58 ∷ 41 ∷ [], refl)
comment_front (nested {rest = rest} a b) =
    let x = comment_front a in
    let y = comment_front b in (
      40 ∷ 58 ∷ (x.0 ++ y.0),
      ap (λ v. 40 ∷ 58 ∷ v) (x.1 ∙ ap (λ v. x.0 ++ v) y.1
          ∙ sym (append_assoc x.0 y.0 rest)),
    )
comment_front (passes {c = c} h e d a) = let x = comment_front a in (c ∷ x.0, ap (λ v. c ∷ v) x.1)

gap_front : {b a : Bool} {ts rest : List ℕ} → Gap b ts a rest
    → (front : List ℕ) × (ts ≡ front ++ rest)
gap_front none = ([], refl)
gap_front (space {c = c} e g) = let x = gap_front g in (c ∷ x.0, ap (λ v. c ∷ v) x.1)
gap_front (comment {rest = rest} c g) =
    let x = comment_front c in
    let y = gap_front g in (
      40 ∷ 58 ∷ (x.0 ++ y.0),
      ap (λ v. 40 ∷ 58 ∷ v) (x.1 ∙ ap (λ v. x.0 ++ v) y.1
          ∙ sym (append_assoc x.0 y.0 rest)),
    )

-- what comes before the rest that a token leaves
pub token_front : (total : ℕ) (b : Bool) (ts rest : List ℕ) (u : Placed)
    → TokenAt total b ts u rest → (front : List ℕ) × (ts ≡ front ++ rest)
token_front total b ts rest u at =
    let x = gap_front at.gap in (
      x.0 ++ u.characters,
      x.1 ∙ ap (λ v. x.0 ++ v) at.longest.begins.parts
          ∙ sym (append_assoc x.0 u.characters rest),
    )

-- the text from its beginning on
pub text_size : (text : List ℕ) → IsUtf8 text → size (chars text) ≡ length text
unfolding size
text_size text u = ap length (encodes-chars text u)

pub from_start : (text rest : List ℕ) (u : Placed) → IsUtf8 text
    → TokenAt (length text) (ends_in_digit (chars (take 0 text))) (chars (drop 0 text)) u rest
    → TokenAt (size (chars text)) false (chars text) u rest
from_start text rest u t at = rw (text_size text t) (rw chars-nil at at)

pub over_from_start : (text : List ℕ)
    → IsOver (ends_in_digit (chars (take 0 text))) (chars (drop 0 text))
    → IsOver false (chars text)
over_from_start text at = rw chars-nil at at

pub fault_from_start : (text : List ℕ) (place : ℕ) → IsUtf8 text
    → FaultAt (length text) (ends_in_digit (chars (take 0 text))) (chars (drop 0 text)) place
    → FaultAt (size (chars text)) false (chars text) place
fault_from_start text place t at = rw (text_size text t) (rw chars-nil at at)

pub token_parts : (text : List ℕ) (u : Placed) → IsUtf8 text
    → ((rest : List ℕ) × TokenAt (length text) (ends_in_digit (chars (take 0 text))) (chars
    (drop 0 text)) u rest)
    → (front : List ℕ) × (rest : List ℕ) × (chars text ≡ front ++ rest)
    × (u.to + size rest ≡ length text)
token_parts text u t (rest, at) =
    let from = from_start text rest u t at in
    let parts = token_front _ _ _ rest u from in
    (parts.0, rest, parts.1, at.to)

pub token_leads : (text left : List ℕ) (u : Placed) → IsUtf8 text
    → ((rest : List ℕ) × TokenAt (length text) (ends_in_digit (chars (take 0 text))) (chars
    (drop 0 text)) u rest)
    → ((front rest : List ℕ) → chars text ≡ front ++ rest → u.to + size rest ≡ length text
    → left ≡ rest) → TokenAt (size (chars text)) false (chars text) u left
token_leads text left u t (rest, at) f =
    let from = from_start text rest u t at in
    let parts = token_front _ _ _ rest u from in
    let same : left ≡ rest = f parts.0 rest parts.1 at.to in
    rw same from
