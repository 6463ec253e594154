-- What comes next in a text, where characters are taken from its front.
use Rattle.std.proofs.Common.{◌≡◌, ℕ, ◌≤◌, length-append, List, [], ◌∷◌, ◌++◌, length, Bool, false, Option, Some, slice_get, ap, ◌∙◌, arith}
use Rattle.std.proofs.lemmas.Str.{chars_past_char}
use Rattle.std.specs.Char.{encode_utf8}
use Rattle.std.specs.Str.{chars, IsUtf8}
use Rattle.xt_names.specs.Characters.{Ends, NotNext}

pub not_next : (c : ℕ) (cs : List ℕ) (r : Option ℕ) → r ≡ slice_get cs 0 → ((d : ℕ) → r ≡ Some d → c ≡ d → ⊥) → NotNext c cs
not_next c [] r e f = tt
not_next c (d ∷ ds) r e f = f d e

-- a class does not come next
pub ends_next : (p : ℕ → Bool) (cs : List ℕ) (r : Option ℕ) → r ≡ slice_get cs 0 → ((d : ℕ) → r ≡ Some d → p d ≡ false) → Ends p cs
ends_next p [] r e f = tt
ends_next p (d ∷ ds) r e f = f d e

pub eaten : (now inside old before after new : List ℕ) (c next : ℕ) → chars inside ≡ now → before ≡ inside → old ≡ before → IsUtf8 old → before ≡ encode_utf8 next ++ after → new ≡ after → next ≡ c → now ≡ c ∷ chars new
eaten now inside old before after new c next v s o u e n same =
    let utf8 : IsUtf8 before = rw o at u in
    let past : chars before ≡ next ∷ chars after = chars_past_char before after next utf8 e in cc

-- a run ends where the next character is of another class, or there is none
pub run_ends : (p : ℕ → Bool) (rest at : List ℕ) (r : Option ℕ) (c : ℕ) → rest ≡ at → r ≡ slice_get (chars at) 0 → r ≡ Some c → p c ≡ false → Ends p (chars rest)
run_ends p rest at r c e s is other_class =
    let other = λ (d : ℕ) (is' : r ≡ Some d). (let same : c ≡ d = cc in rw same at other_class) in
    rw e (ends_next p (chars at) r s other)

pub run_ends_all : (p : ℕ → Bool) (rest at : List ℕ) (r : Option ℕ) → rest ≡ at → r ≡ slice_get (chars at) 0 → ((c : ℕ) → r ≡ Some c → ⊥) → Ends p (chars rest)
run_ends_all p rest at r e s none = rw e (ends_next p (chars at) r s (λ d is. absurd (none d is)))

pub shorter_run : (old run new : List ℕ) → old ≡ run ++ new → length new ≤ length old
shorter_run old run new e = let size = ap length e ∙ length-append run new in omega arith
