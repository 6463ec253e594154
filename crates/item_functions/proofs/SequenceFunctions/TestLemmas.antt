-- Tests of positions, as tests of how many items come before them.
use Rattle.std.proofs.Common.{◌≡◌, ℕ, zero, suc, true, not, refl, arith}
use Rattle.std.specs.Prelude.{nat_eq, nat_le, nat_lt, ℤ, pos, negsuc, int_lt, ◌+ℤ◌}
use Rattle.std.specs.Ordering.{int_eq}
use Rattle.std.proofs.lemmas.Bool.Decides.{nat_tests}
use Rattle.std.proofs.lemmas.Int.{ints}
use mir.Syntax.{w64, w128}
use mir.Val.{to_z, of_z, SFits as FitsSigned}
use Rattle.item_functions.specs.SequenceFunctions.Positions.{before}

pub from_test : (start : ℤ) (k : ℕ) → not (int_lt (pos (suc k)) start) ≡ nat_le (before start) k
from_test (pos zero) k = grind (arith, nat_tests)
from_test (pos (suc m)) k = grind (arith, nat_tests)
from_test (negsuc m) k = grind (arith, nat_tests)

pub until_test : (stop : ℤ) (k : ℕ) → int_lt (pos (suc k)) stop ≡ nat_lt k (before stop)
until_test (pos zero) k = grind (arith, nat_tests)
until_test (pos (suc m)) k = grind (arith, nat_tests)
until_test (negsuc m) k = grind (arith, nat_tests)

pub but_test : (m k : ℕ) → not (int_eq (pos (suc k)) (pos (suc m))) ≡ not (nat_eq k m)
but_test m k = grind (arith, nat_tests)

pub but_zero : (k : ℕ) → not (int_eq (pos (suc k)) (pos zero)) ≡ true
but_zero k = grind (arith, nat_tests)

pub but_less : (m k : ℕ) → not (int_eq (pos (suc k)) (negsuc m)) ≡ true
but_less m k = refl

-- an integer as it comes through a call
abbrev wide : ℤ → ℤ
wide z = to_z w128 (of_z w128 z)

abbrev passed : ℤ → ℤ
passed z = to_z w64 (of_z w64 z)

pub through : (z x : ℤ) → FitsSigned w64 z → x ≡ passed z → wide x ≡ z
through z x f e = omega (arith, ints)

pub through_next : (z x : ℤ) → FitsSigned w64 z → x ≡ passed z → wide (wide x +ℤ pos 1) ≡ z +ℤ pos 1
through_next z x f e = omega (arith, ints)

pub through_sum : (z w x y : ℤ) → FitsSigned w64 z → FitsSigned w64 w → x ≡ passed z → y ≡ passed w → wide (wide x +ℤ wide y) ≡ z +ℤ w
through_sum z w x y f g e h = omega (arith, ints)
