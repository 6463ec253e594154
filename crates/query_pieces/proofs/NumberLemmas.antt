-- Numbers of references, digit by digit.
use Rattle.std.proofs.Common.{◌≡◌, ◌≤◌, ◌<◌, ℕ, ◌+◌, ◌*◌, List, [], ◌∷◌, ◌++◌, Bool, true, false}
use Rattle.std.proofs.Common.{◌&&◌, nat_le, Option, Some, None, refl, sym, ap, arith, inr}
use Rattle.std.proofs.Common.{slice_get}
use Rattle.std.proofs.lemmas.Bool.{lt-leb}
use Rattle.std.specs.Char.{OutOfScalarRange}
use Rattle.query_pieces.specs.References.{Base, decimal, hexadecimal, base_of, digit, value}
use Rattle.query_pieces.specs.References.{char_of, numbered}
use Rattle.xt_names.proofs.CharacterLemmas.{no_scalar}

value-push : (b : Base) (n : ℕ) (cs : List ℕ) (c : ℕ)
    → value b n (cs ++ c ∷ []) ≡ value b n cs * base_of b + digit c
unfolding value
value-push b n [] c = refl
value-push b n (d ∷ cs) c = value-push b (n * base_of b + digit d) cs c

grows : (b : Base) (n m : ℕ) → n ≤ n * base_of b + m
grows decimal n m = omega arith
grows hexadecimal n m = omega arith

-- the number so far, or one that is too great where the digits are
pub record Counts (b : Base) (n : ℕ) (cs : List ℕ) : Type 0 where
  pub exact : n ≤ 0x10_FFFF → n ≡ value b 0 cs
  pub past : 0x10_FFFF < n → 0x10_FFFF < value b 0 cs
  pub small : n ≤ 10000000000

pub counts_begin : (b : Base) → Counts b 0 []
unfolding value
counts_begin b = record {
  exact = λ h. refl;
  past = λ h. absurd
      (omega arith);
  small = omega arith;
}

pub counts_more : (b : Base) (n k m : ℕ) (cs : List ℕ) (c : ℕ) → Counts b n cs → n ≤ 0x10_FFFF
    → k ≡ base_of b → k ≤ 16 → m ≡ digit c → m ≤ 4294967295 → Counts b (n * k + m) (cs ++ c ∷ [])
counts_more b n k m cs c t h e f d g =
    let same = t.exact h in
    let p = value-push b 0 cs c in
    let fits : n * k + m ≤ 10000000000 = bound n k m h f g in
    record {
      exact = λ x. rw (p, ← same, ← e, ← d) refl;
      past = λ x. rw
          (p, ← same, ← e, ← d) x;
      small = fits;
    } where
      bound : (n k m : ℕ) → n ≤ 0x10_FFFF → k ≤ 16 → m ≤ 4294967295 → n * k + m ≤ 10000000000
      bound n k m h f g = grind arith

pub counts_past : (b : Base) (n : ℕ) (cs : List ℕ) (c : ℕ) → Counts b n cs → 0x10_FFFF < n
    → Counts b n (cs ++ c ∷ [])
counts_past b n cs c t h =
    let e = t.past h in
    let p = value-push b 0 cs c in
    let more : value b 0 cs ≤ value b 0 cs * base_of b + digit c = grows b (value b 0 cs)
    (digit c) in
    record {
      exact = λ g. absurd (omega arith);
      past = λ g. rw p (omega
          (arith, e, more));
      small = t.small;
    }

below : (a b n : ℕ) → n < a → (nat_le a n && nat_le n b) ≡ false
below a b n h = rw (lt-leb a n h) refl

above : (a b n : ℕ) → b < n → (nat_le a n && nat_le n b) ≡ false
above a b n h = rw (lt-leb n b h) (no_second (nat_le a n)) where
  no_second : (x : Bool) → (x && false) ≡ false
  no_second true = refl
  no_second false = refl

pub no_char : (n : ℕ) → OutOfScalarRange n → None ≡ char_of n
no_char n h = rw (no_scalar n h) refl

pub past_char : (n : ℕ) → 0x10_FFFF < n → char_of n ≡ None
past_char n h = rw (no_scalar n (inr (omega arith))) refl

pub numbered_first : (b : Base) (cs : List ℕ) (c n : ℕ) (r : Option ℕ) → r ≡ slice_get cs 0
    → r ≡ Some c → n ≡ value b 0 cs → char_of n ≡ numbered b cs
numbered_first b [] c n r e f v = cc
numbered_first b (d ∷ ds) c n r e f v = ap char_of v

pub numbered_none : (b : Base) (cs : List ℕ) (r : Option ℕ) → r ≡ slice_get cs 0 → r ≡ None
    → None ≡ numbered b cs
numbered_none b [] r e f = refl
numbered_none b (d ∷ ds) r e f = cc

pub numbered_past : (b : Base) (cs : List ℕ) → 0x10_FFFF < value b 0 cs → None ≡ numbered b cs
numbered_past b [] h = refl
numbered_past b (d ∷ ds) h = sym (past_char (value b 0 (d ∷ ds)) h)

pub ruleset numbers = (numbered_none, numbered_past)
