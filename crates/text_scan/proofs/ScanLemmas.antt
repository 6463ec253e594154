-- A text and its characters, where some are taken from its front.
use Rattle.std.proofs.Common.{◌≡◌, ℕ, ◌+◌, ◌≤◌, length-append, List, [], ◌∷◌, ◌++◌, length, take, Bool, true, false, Option, Some, slice_get, refl, sym, ap, ◌∙◌, append_assoc, arith}
use Rattle.std.proofs.lemmas.Str.{chars-append, chars_past_char, IsCharBoundary-at_seam}
use Rattle.std.proofs.lemmas.Bool.{and_parts}
use Rattle.std.proofs.lemmas.List.{append_cancel_right}
use Rattle.std.proofs.Math.Seq.{take-append_seam}
use Rattle.std.specs.Char.{encode_utf8}
use Rattle.std.specs.List.{list_all}
use Rattle.std.specs.Str.{chars, IsUtf8, IsCharBoundary}
use Rattle.text_scan.specs.Runs.{Ends, NotNext}

pub not_next : (c : ℕ) (cs : List ℕ) (r : Option ℕ) → r ≡ slice_get cs 0 → ((d : ℕ) → r ≡ Some d → c ≡ d → ⊥) → NotNext c cs
not_next c [] r e f = tt
not_next c (d ∷ ds) r e f = f d e

-- a class does not come next
pub ends_next : (p : ℕ → Bool) (cs : List ℕ) (r : Option ℕ) → r ≡ slice_get cs 0 → ((d : ℕ) → r ≡ Some d → p d ≡ false) → Ends p cs
ends_next p [] r e f = tt
ends_next p (d ∷ ds) r e f = f d e

-- what is taken from a text, and what is left of it
pub record Taken (p : ℕ → Bool) (whole rest : List ℕ) : Type 0 where
  pub bytes : List ℕ
  pub run : List ℕ
  pub is_whole : whole ≡ bytes ++ rest
  pub characters : chars whole ≡ run ++ chars rest
  pub passes : list_all p run ≡ true

pub Taken-none : (p : ℕ → Bool) (whole rest : List ℕ) → rest ≡ whole → Taken p whole rest
Taken-none p whole rest e = record { bytes = []; run = []; is_whole = sym e; characters = ap chars (sym e); passes = refl }

pub list_all-push : (p : ℕ → Bool) (xs : List ℕ) (c : ℕ) → list_all p xs ≡ true → p c ≡ true → list_all p (xs ++ c ∷ []) ≡ true
list_all-push p [] c a h = rw h refl
list_all-push p (x ∷ xs) c a h =
    let parts = and_parts (p x) (list_all p xs) a in rw (parts.0, list_all-push p xs c parts.1 h) refl

pub Taken-more : (p : ℕ → Bool) (whole rest rest' : List ℕ) (c : ℕ) → Taken p whole rest → IsUtf8 rest → rest ≡ encode_utf8 c ++ rest' → p c ≡ true → Taken p whole rest'
Taken-more p whole rest rest' c t u e h = record {
  bytes = t.bytes ++ encode_utf8 c;
  run = t.run ++ c ∷ [];
  is_whole = rw (append_assoc t.bytes (encode_utf8 c) rest', ← e) t.is_whole;
  characters = rw append_assoc (t.characters ∙ ap (λ cs. t.run ++ cs) (chars_past_char rest rest' c u e));
  passes = list_all-push p t.run c t.passes h;
}

-- the part of the text that was taken
pub taken_run : (p : ℕ → Bool) (whole rest front : List ℕ) (n : ℕ) → (t : Taken p whole rest) → n + length rest ≡ length whole → front ≡ take n whole → IsUtf8 front → (chars whole ≡ chars front ++ chars rest) × (list_all p (chars front) ≡ true)
taken_run p whole rest front n t e f u =
    let size : length whole ≡ length t.bytes + length rest = ap length t.is_whole ∙ length-append t.bytes rest in
    let same : n ≡ length t.bytes = omega arith in
    let bytes : front ≡ t.bytes = f ∙ ap (λ k. take k whole) same ∙ ap (take (length t.bytes)) t.is_whole ∙ take-append_seam t.bytes rest in
    let split : chars whole ≡ chars front ++ chars rest = ap chars (t.is_whole ∙ ap (λ b. b ++ rest) (sym bytes)) ∙ chars-append front rest u in
    let runs : t.run ≡ chars front = append_cancel_right t.run (chars front) (chars rest) (sym t.characters ∙ split) in
    (split, rw (← runs) t.passes)

pub taken_seam : (p : ℕ → Bool) (whole rest : List ℕ) (n : ℕ) → (t : Taken p whole rest) → n + length rest ≡ length whole → IsUtf8 rest → IsCharBoundary whole n
taken_seam p whole rest n t e u =
    let size : length whole ≡ length t.bytes + length rest = ap length t.is_whole ∙ length-append t.bytes rest in
    let same : n ≡ length t.bytes = omega arith in
    rw same (IsCharBoundary-at_seam whole t.bytes rest t.is_whole u)

pub taken_short : (p : ℕ → Bool) (whole rest : List ℕ) → Taken p whole rest → length rest ≤ length whole
taken_short p whole rest t =
    let size : length whole ≡ length t.bytes + length rest = ap length t.is_whole ∙ length-append t.bytes rest in omega arith

pub eaten : (now inside old before after new : List ℕ) (c next : ℕ) → chars inside ≡ now → before ≡ inside → old ≡ before → IsUtf8 old → before ≡ encode_utf8 next ++ after → new ≡ after → next ≡ c → now ≡ c ∷ chars new
eaten now inside old before after new c next v s o u e n same =
    let utf8 : IsUtf8 before = rw o at u in
    let past : chars before ≡ next ∷ chars after = chars_past_char before after next utf8 e in cc

-- a run ends where the next character is of another class, or there is none
pub run_ends : (p : ℕ → Bool) (rest at : List ℕ) (r : Option ℕ) (c : ℕ) → rest ≡ at → r ≡ slice_get (chars at) 0 → r ≡ Some c → p c ≡ false → Ends p (chars rest)
run_ends p rest at r c e s is other_class =
    let other = λ (d : ℕ) (is' : r ≡ Some d). (let same : c ≡ d = cc in rw same at other_class) in
    rw e (ends_next p (chars at) r s other)

pub run_ends_all : (p : ℕ → Bool) (rest at : List ℕ) (r : Option ℕ) → rest ≡ at → r ≡ slice_get (chars at) 0 → ((c : ℕ) → r ≡ Some c → ⊥) → Ends p (chars rest)
run_ends_all p rest at r e s none = rw e (ends_next p (chars at) r s (λ d is. absurd (none d is)))

pub shorter_run : (old run new : List ℕ) → old ≡ run ++ new → length new ≤ length old
shorter_run old run new e = let size = ap length e ∙ length-append run new in omega arith
