-- Operations on integers that 64 bits hold, or not.
use Rattle.std.proofs.Common.{◌≡◌, zero, suc, ◌<◌, ◌^◌, Bool, true, false, Option, Some, None, Result, Ok, Err, ℤ, pos, negsuc, int_div, int_rem, refl, sym, ap, ◌∙◌, arith, FitsSigned, w64}
use Rattle.std.proofs.lemmas.Int.{to_z-of_z}
use Rattle.std.specs.Int.{CanDivide, IsNonZero, cast_signed, cast_unsigned}
use Rattle.std.specs.Option.{SomeIff, ok_or}
use Rattle.xt_names.specs.declared.codes.Code.{Code}
use Rattle.xt_names.specs.declared.codes.Code.TheVariants.{Dynamic}
use Rattle.xt_names.specs.declared.codes.DynamicCode.TheVariants.{FOAR0001, FOAR0002}
use Rattle.xt_atoms.specs.Arithmetic.{ranged, quotient, remainder}
use Rattle.xt_atoms.specs.Casts.{is_zero}
use Rattle.xt_atoms.specs.Lexical.{is_in_range}
use Rattle.xt_atoms.proofs.IntegerLemmas.{range_true, range_of}

abbrev pub to_ok : ℤ → Result ℤ Code
to_ok z = Ok z

-- an integer as it comes through a call
abbrev passed : ℤ → ℤ
passed z = cast_signed w64 (cast_unsigned w64 z)

same : (z : ℤ) → FitsSigned w64 z → passed z ≡ z
same z f = to_z-of_z w64 z f

through : (f : ℤ → ℤ → Result ℤ Code) (a b : ℤ) → FitsSigned w64 a → FitsSigned w64 b → f (passed a) (passed b) ≡ f a b
through f a b x y = ap (λ z. f z (passed b)) (same a x) ∙ ap (f a) (same b y)

pub ranged_in : (z : ℤ) → is_in_range z ≡ true → ranged z ≡ Ok z
unfolding ranged
ranged_in z e = rw e refl

pub ranged_out : (z : ℤ) → is_in_range z ≡ false → ranged z ≡ Err (Dynamic FOAR0002)
unfolding ranged
ranged_out z e = rw e refl

ranged_cases : (r : Option ℤ) (z : ℤ) (b : Bool) → is_in_range z ≡ b → SomeIff r (FitsSigned w64 z) z → ok_or r (Dynamic FOAR0002) ≡ ranged z
ranged_cases (Some x) z b e h = ap to_ok h.1 ∙ sym (ranged_in z (range_true z h.0))
ranged_cases None z true e h = absurd (h (range_of z e))
ranged_cases None z false e h = sym (ranged_out z e)

-- an operation on integers that came through a call
pub ranged_from : (op : ℤ → ℤ → ℤ) (r : Option ℤ) (a b : ℤ) → FitsSigned w64 a → FitsSigned w64 b
    → SomeIff r (FitsSigned w64 (op (passed a) (passed b))) (op (passed a) (passed b)) → ok_or r (Dynamic FOAR0002) ≡ ranged (op a b)
ranged_from op r a b x y h = ranged_cases r _ _ refl h ∙ through (λ m n. ranged (op m n)) a b x y

pub zero_from : (b : ℤ) (t u : Bool) → FitsSigned w64 b → t ≡ is_zero (passed b) → t ≡ u → is_zero b ≡ u
zero_from b t u f e h = ap is_zero (sym (same b f)) ∙ sym e ∙ h

is_nonzero : (b : ℤ) → FitsSigned w64 b → is_zero b ≡ false → IsNonZero w64 b
is_nonzero (pos zero) f e = cc
is_nonzero (pos (suc n)) f e = omega arith
is_nonzero (negsuc n) f e = let s : n < 2 ^ 63 = f.sfits in omega arith

can : (r : Option ℤ) (a b : ℤ) → IsNonZero w64 b → SomeIff r (CanDivide w64 a b) (int_div a b) → SomeIff r (FitsSigned w64 (int_div a b)) (int_div a b)
can (Some x) a b n h = (h.0.1, h.1)
can None a b n h = λ f. h (n, f)

-- the divisor as it comes through a call
pub passed_nonzero : (b : ℤ) → FitsSigned w64 b → is_zero b ≡ false → IsNonZero w64 (passed b)
passed_nonzero b f e = rw (to_z-of_z w64 b f) (is_nonzero b f e)

quotient_passed : (r : Option ℤ) (a b : ℤ) → IsNonZero w64 b → is_zero b ≡ false → SomeIff r (CanDivide w64 a b) (int_div a b) → ok_or r (Dynamic FOAR0002) ≡ quotient a b
unfolding quotient
quotient_passed r a b n e h = rw e (ranged_cases r (int_div a b) _ refl (can r a b n h))

pub quotient_from : (r : Option ℤ) (a b : ℤ) → FitsSigned w64 a → FitsSigned w64 b → is_zero b ≡ false
    → SomeIff r (CanDivide w64 (passed a) (passed b)) (int_div (passed a) (passed b)) → ok_or r (Dynamic FOAR0002) ≡ quotient a b
quotient_from r a b x y e h = quotient_passed r (passed a) (passed b) (passed_nonzero b y e) (ap is_zero (same b y) ∙ e) h ∙ through quotient a b x y

pub quotient_by_zero : (a b : ℤ) → is_zero b ≡ true → Err (Dynamic FOAR0001) ≡ quotient a b
unfolding quotient
quotient_by_zero a b e = rw e refl

pub remainder_by_zero : (a b : ℤ) → is_zero b ≡ true → Err (Dynamic FOAR0001) ≡ remainder a b
unfolding remainder
remainder_by_zero a b e = rw e refl

remainder_of : (a b : ℤ) → is_zero b ≡ false → to_ok (int_rem a b) ≡ remainder a b
unfolding remainder
remainder_of a b e = rw e refl

pub remainder_from : (a b r : ℤ) → FitsSigned w64 a → FitsSigned w64 b → FitsSigned w64 r → is_zero b ≡ false → r ≡ int_rem (passed a) (passed b) → to_ok (passed r) ≡ remainder a b
remainder_from a b r x y f e h = ap to_ok (same r f ∙ h) ∙ through (λ m n. to_ok (int_rem m n)) a b x y ∙ remainder_of a b e
