-- A text that is written piece by piece.
use Rattle.std.proofs.Common.{◌≡◌, ℕ, ◌+◌, ◌≤◌, List, [], ◌∷◌, ◌++◌, length, take, refl, sym, ap, ◌∙◌, append_assoc, length-append, arith, Bool, true, nat_eq}
use Rattle.std.proofs.Math.Seq.{take-append_seam}
use Rattle.std.proofs.lemmas.Grind.{flat_map-append}
use Rattle.std.proofs.lemmas.Bool.{false≢true}
use Rattle.std.proofs.lemmas.List.{append_cancel_right, append-nil}
use Rattle.std.proofs.lemmas.Str.{chars-append, chars_past_char, IsCharBoundary-at_seam}
use Rattle.std.specs.Char.{encode_utf8}
use Rattle.std.specs.List.{flat_map}
use Rattle.std.specs.Str.{chars, IsUtf8, IsCharBoundary}
use Rattle.doc_writer.specs.Plain.{BeginsPlain}
use Rattle.doc_writer.proofs.WrittenLemmas.{nonzero}

pub plain_none : (written : ℕ → List ℕ) (whole rest : List ℕ) → rest ≡ whole → BeginsPlain written whole rest
plain_none written whole rest e = record { front = []; run = []; is_whole = sym e; characters = ap chars (sym e); plain = refl }

pub plain_more : (written : ℕ → List ℕ) (whole rest rest' : List ℕ) (c : ℕ) → BeginsPlain written whole rest → IsUtf8 rest → rest ≡ encode_utf8 c ++ rest' → written c ≡ c ∷ [] → BeginsPlain written whole rest'
plain_more written whole rest rest' c t u e itself = record {
  front = t.front ++ encode_utf8 c;
  run = t.run ++ c ∷ [];
  is_whole = rw (append_assoc t.front (encode_utf8 c) rest', ← e) t.is_whole;
  characters = rw append_assoc (t.characters ∙ ap (λ cs. t.run ++ cs) (chars_past_char rest rest' c u e));
  plain = rw (flat_map-append written t.run (c ∷ []), t.plain, itself) refl;
}

short_front : (written : ℕ → List ℕ) (whole rest : List ℕ) → (t : BeginsPlain written whole rest) → length whole ≡ length t.front + length rest
short_front written whole rest t = ap length t.is_whole ∙ length-append t.front rest

pub rest_within : (written : ℕ → List ℕ) (whole rest : List ℕ) → BeginsPlain written whole rest → length rest ≤ length whole
rest_within written whole rest t = omega (arith, short_front written whole rest t)

pub seam_of : (written : ℕ → List ℕ) (whole rest : List ℕ) (n : ℕ) → (t : BeginsPlain written whole rest) → n + length rest ≡ length whole → IsUtf8 rest → IsCharBoundary whole n
seam_of written whole rest n t e u =
    let same : n ≡ length t.front = omega (arith, short_front written whole rest t) in
    rw same (IsCharBoundary-at_seam whole t.front rest t.is_whole u)

-- the part at the front, as it is cut off
pub front_is_run : (written : ℕ → List ℕ) (whole rest front : List ℕ) (n : ℕ) → (t : BeginsPlain written whole rest) → n + length rest ≡ length whole → front ≡ take n whole → IsUtf8 front → chars front ≡ t.run
front_is_run written whole rest front n t e f u =
    let same : n ≡ length t.front = omega (arith, short_front written whole rest t) in
    let bytes : front ≡ t.front = f ∙ ap (λ k. take k whole) same ∙ ap (take (length t.front)) t.is_whole ∙ take-append_seam t.front rest in
    let split : chars whole ≡ chars front ++ chars rest = ap chars (t.is_whole ∙ ap (λ b. b ++ rest) (sym bytes)) ∙ chars-append front rest u in
    sym (append_cancel_right t.run (chars front) (chars rest) (sym t.characters ∙ split))

-- the front is written as it is, and then the rest
pub written_front : (written : ℕ → List ℕ) (whole rest front left old mid new : List ℕ) → (t : BeginsPlain written whole rest) → chars front ≡ t.run → mid ≡ old ++ chars front
    → new ++ flat_map written (chars left) ≡ mid ++ flat_map written (chars rest) → new ++ flat_map written (chars left) ≡ old ++ flat_map written (chars whole)
written_front written whole rest front left old mid new t f m n =
    n ∙ rw (m, f, t.characters, flat_map-append written t.run (chars rest), t.plain) (append_assoc old t.run (flat_map written (chars rest)))

-- one character
pub written_first : (written : ℕ → List ℕ) (whole left old new : List ℕ) (c : ℕ) → IsUtf8 whole → whole ≡ encode_utf8 c ++ left → new ≡ old ++ written c
    → new ++ flat_map written (chars left) ≡ old ++ flat_map written (chars whole)
written_first written whole left old new c u e n =
    rw (n, chars_past_char whole left c u e) (append_assoc old (written c) (flat_map written (chars left)))

pub nothing_left : (written : ℕ → List ℕ) (out left all : List ℕ) (e : Bool) → e ≡ nat_eq (length left) 0 → e ≡ true → out ++ flat_map written (chars left) ≡ all → out ≡ all
unfolding chars
nothing_left written out [] all e is t h = sym (append-nil out) ∙ h
nothing_left written out (b ∷ bs) all e is t h = absurd (false≢true (nonzero (length bs) ∙ sym is ∙ t))
