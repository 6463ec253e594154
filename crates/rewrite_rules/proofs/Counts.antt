-- Sizes and nesting of lists, and truth values as numbers.
use Rattle.std.proofs.Common.{◌≡◌, ℕ, ◌+◌, ◌≤◌, max, List, [], ◌∷◌, ◌++◌, map, refl, ap, ◌∙◌, arith}
use Rattle.std.specs.Prelude.{Bool, true, false, ◌||◌, if◌then◌else◌, Some, None}
use Rattle.xt_forms.specs.Nest.{nest_of, arm_nest_of}
use Rattle.xt_syntax.specs.declared.exprs.Expr.{Expr}
use Rattle.xt_syntax.specs.declared.exprs.Arm.{Arm}
use Rattle.rewrite_rules.specs.Sizes.{size_of}
use Rattle.rewrite_rules.specs.Law.{OnSome}
use Rattle.rewrite_rules.proofs.Measured.{arm_size_of}
use Rattle.xt_names.specs.Lists.{greatest, total}

abbrev pub count : Bool → ℕ
count true = 1
count false = 0

pub if_some : {A : Type 0} (P : A → Type 0) (t : Bool) (v : A) → (t ≡ true → P v) →
    OnSome P (if t then Some v else None)
if_some P true v h = h refl
if_some P false v h = tt

pub count_or : (a b : Bool) → count (a || b) ≤ count a + count b
count_or true true = omega arith
count_or true false = omega arith
count_or false true = omega arith
count_or false false = omega arith

abbrev pub sizes : List Expr → ℕ
sizes es = total (map size_of es)

abbrev pub nests_in : List Expr → ℕ
nests_in es = greatest (map nest_of es)

abbrev pub arm_sizes : List Arm → ℕ
arm_sizes arms = total (map arm_size_of arms)

abbrev pub arm_nests : List Arm → ℕ
arm_nests arms = greatest (map arm_nest_of arms)

pub totals_append : {A : Type 0} (f : A → ℕ) (xs ys : List A) →
    total (map f (xs ++ ys)) ≡ total (map f xs) + total (map f ys)
totals_append f [] ys = omega arith
totals_append f (x ∷ xs) ys =
    ap (λ n. f x + n) (totals_append f xs ys)
    ∙ by (f x) (total (map f xs)) (total (map f ys))
  where
    by : (a b c : ℕ) → a + (b + c) ≡ (a + b) + c
    by a b c = omega arith

pub greatest_append : {A : Type 0} (f : A → ℕ) (xs ys : List A) →
    greatest (map f (xs ++ ys)) ≡ max (greatest (map f xs)) (greatest (map f ys))
greatest_append f [] ys = by (greatest (map f ys))
  where
    by : (n : ℕ) → n ≡ max 0 n
    by n = grind arith
greatest_append f (x ∷ xs) ys =
    ap (max (f x)) (greatest_append f xs ys)
    ∙ by (f x) (greatest (map f xs)) (greatest (map f ys))
  where
    by : (a b c : ℕ) → max a (max b c) ≡ max (max a b) c
    by a b c = grind arith

pub sizes_append : (xs ys : List Expr) → sizes (xs ++ ys) ≡ sizes xs + sizes ys
sizes_append xs ys = totals_append size_of xs ys

pub nests_append : (xs ys : List Expr) → nests_in (xs ++ ys) ≡ max (nests_in xs) (nests_in ys)
nests_append xs ys = greatest_append nest_of xs ys
