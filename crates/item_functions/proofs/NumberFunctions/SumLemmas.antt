-- Integers that 64 bits hold, or not.
use Rattle.std.proofs.Common.{◌≡◌, ℕ, zero, suc, ◌<◌, ◌^◌, Bool, true, false, Option, Some, None, Err, ℤ, pos, negsuc, refl, ap, sym, ◌∙◌, subst, arith, FitsSigned, w64, to_z, of_z}
use Rattle.std.specs.Prelude.{unsigned_abs}
use Rattle.std.specs.Option.{SomeIff, ok_or}
use Rattle.std.proofs.lemmas.Bool.{ltb-true, lt-ltb}
use Rattle.std.proofs.lemmas.Int.{to_z-of_z}
use lib.IntN.{neg_ℤ}
use mir.Syntax.{w128}
use Rattle.xt_names.specs.declared.codes.Code.TheVariants.{Dynamic}
use Rattle.xt_names.specs.declared.codes.DynamicCode.TheVariants.{FOAR0002}
use Rattle.xt_atoms.specs.Arithmetic.{ranged}
use Rattle.xt_atoms.specs.Lexical.{is_in_range}
use Rattle.xt_atoms.proofs.IntegerLemmas.{range_true, range_of}
use Rattle.item_functions.specs.NumberFunctions.Sums.{absolute}
use Rattle.xt_atoms.proofs.ArithmeticLemmas.{to_ok, ranged_in, ranged_out}

-- an integer as it comes through a call
abbrev wide : ℤ → ℤ
wide z = to_z w128 (of_z w128 z)

abbrev passed : ℤ → ℤ
passed z = to_z w64 (of_z w64 z)

pub ranged_ok : (z x : ℤ) → FitsSigned w128 z → FitsSigned w64 (wide z) × (x ≡ wide z) → to_ok (passed x) ≡ ranged z
ranged_ok z x w h =
    let same : wide z ≡ z = to_z-of_z w128 z w in
    let fits : FitsSigned w64 z = subst (FitsSigned w64) same h.0 in
    let equal : x ≡ z = h.1 ∙ same in
    ap (λ (y : ℤ). to_ok (passed y)) equal ∙ ap to_ok (to_z-of_z w64 z fits) ∙ sym (ranged_in z (range_true z fits))

pub ranged_err : (z : ℤ) → FitsSigned w128 z → (FitsSigned w64 (wide z) → ⊥) → Err (Dynamic FOAR0002) ≡ ranged z
ranged_err z w unfit = by (is_in_range z) refl
  where
    by : (b : Bool) → is_in_range z ≡ b → Err (Dynamic FOAR0002) ≡ ranged z
    by true e = absurd (unfit (subst (FitsSigned w64) (sym (to_z-of_z w128 z w)) (range_of z e)))
    by false e = sym (ranged_out z e)

-- where a number is in range, so is its opposite
opposite_in : (n : ℕ) → FitsSigned w64 (pos n) → FitsSigned w64 (neg_ℤ (pos n))
opposite_in zero f = f
opposite_in (suc n) f =
    let low : suc n < 2 ^ 63 = ltb-true (suc n) (2 ^ 63) (range_true (pos (suc n)) f) in
    range_of (negsuc n) (lt-ltb n (2 ^ 63) (omega arith))

absolute_cases : (r : Option ℤ) (n : ℤ) → FitsSigned w64 n → SomeIff r (FitsSigned w64 (neg_ℤ n)) (pos (unsigned_abs n)) → ok_or r (Dynamic FOAR0002) ≡ absolute n
unfolding absolute
absolute_cases (Some x) (pos n) f h = ap to_ok h.1 ∙ sym (ranged_in (pos n) (range_true (pos n) f))
absolute_cases (Some x) (negsuc n) f h = ap to_ok h.1 ∙ sym (ranged_in (pos (suc n)) (range_true (pos (suc n)) h.0))
absolute_cases None (pos n) f h = absurd (h (opposite_in n f))
absolute_cases None (negsuc n) f h = by (is_in_range (pos (suc n))) refl
  where
    by : (b : Bool) → is_in_range (pos (suc n)) ≡ b → Err (Dynamic FOAR0002) ≡ ranged (pos (suc n))
    by true e = absurd (h (range_of (pos (suc n)) e))
    by false e = sym (ranged_out (pos (suc n)) e)

pub absolute_from : (r : Option ℤ) (n : ℤ) → FitsSigned w64 n → SomeIff r (FitsSigned w64 (neg_ℤ (passed n))) (pos (unsigned_abs (passed n))) → ok_or r (Dynamic FOAR0002) ≡ absolute n
absolute_from r n f h =
    absolute_cases r n f (subst (λ (z : ℤ). SomeIff r (FitsSigned w64 (neg_ℤ z)) (pos (unsigned_abs z))) (to_z-of_z w64 n f) h)
