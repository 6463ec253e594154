-- Facts of truth values that several crates cite.
use Rattle.std.proofs.Common.{◌≡◌, Bool, true, false, not, ◌&&◌, ◌||◌, cond, refl}
use Rattle.std.proofs.Common.{◌≤◌, if◌then◌else◌, arith}
use Rattle.std.proofs.lemmas.Bool.{and_parts}

-- false is not true
pub never : {P : Type 0} → false ≡ true → P
never e = cc

pub true_is_not_false : {P : Type 0} → true ≡ false → P
true_is_not_false e = cc

-- no test holds and fails
pub no : {b : Bool} {P : Type 0} → b ≡ true → b ≡ false → P
no a b = cc

pub not_true : {b : Bool} → not b ≡ true → b ≡ false
not_true {b = true} e = absurd (cc)
not_true {b = false} e = refl

-- the same with the test given
pub is_false : (b : Bool) → not b ≡ true → b ≡ false
is_false true h = cc
is_false false h = refl

-- the first and the second of two tests that hold
pub and_first : (a b : Bool) → (a && b) ≡ true → a ≡ true
and_first a b h = (and_parts a b h).0

pub and_second : (a b : Bool) → (a && b) ≡ true → b ≡ true
and_second a b h = (and_parts a b h).1

pub and_both : (a b : Bool) → a ≡ true → b ≡ true → (a && b) ≡ true
and_both true b h g = g
and_both false b h g = absurd cc

pub neither : (a b : Bool) → (a || b) ≡ false → (a ≡ false) × (b ≡ false)
neither true b e = absurd cc
neither false b e = (refl, e)

-- by the cases of a test
pub either : {P : Type 0} (b : Bool) → (b ≡ true → P) → (b ≡ false → P) → P
either true f g = f refl
either false f g = g refl

-- what holds by the one test and by the other
pub one_of : (P : Type 0) (a b : Bool) → (a ≡ true → P) → (b ≡ true → P) → (a || b) ≡ true → P
one_of P true b f g e = f refl
one_of P false b f g e = g e

pub one_less : (a b : Bool) → (if a || b then 0 else 1) ≤ (if a then 0 else 1)
one_less true b = omega arith
one_less false true = omega arith
one_less false false = omega arith

-- of a table with one more key: no element is that key or another one, and all of them differ
both_false : (any : Bool) → false ≡ (not any && false)
both_false true = refl
both_false false = refl

pub differ_step : (g h any all : Bool) → (not (cond g true h) && (not any && all)) ≡ (not (g || any) && (not h && all))
differ_step true h any all = refl
differ_step false true any all = both_false any
differ_step false false any all = refl

pub differ_shuffle : (any all differ : Bool) → (all && (not any && differ)) ≡ ((not any && all) && differ)
differ_shuffle true true differ = refl
differ_shuffle true false differ = refl
differ_shuffle false true differ = refl
differ_shuffle false false differ = refl
