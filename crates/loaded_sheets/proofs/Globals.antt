-- All globals that count are there, and modules come first.
use Rattle.std.proofs.Common.{◌≡◌, ◌≤◌, ℕ, zero, suc, List, [], ◌∷◌, ◌++◌, Bool, true, false}
use Rattle.std.proofs.Common.{Some}
use Rattle.std.proofs.Common.{length, length-append, take, take_all, drop, slice_get, arith, refl}
use Rattle.std.proofs.Common.{ap, ◌∙◌, add-one}
use Rattle.std.specs.List.{range_with_len}
use Rattle.xt_names.specs.declared.codes.Code.{Code}
use Rattle.xt_syntax.specs.declared.exprs.Expr.{Expr}
use Rattle.xt_syntax.specs.declared.patterns.Pattern.{Pattern}
use Rattle.xt_sheets.specs.declared.sheets.Global.{Global}
use Rattle.expr_names.specs.Answers.{first}
use Rattle.sheet_modules.specs.declared.modules.Part.{Part}
use Rattle.sheet_modules.specs.declared.modules.Part.TheVariants as part
use Rattle.sheet_rules.specs.declared.sheet_declarations.lists.Declaration.{Declaration}
use Rattle.sheet_assembly.specs.Named.{is_marked, behind, each_by, global_in, global_if, at}
use Rattle.sheet_assembly.specs.Named.{ordered}

-- the next global, and those after it
at_next : (gs : List Global) (i n : ℕ)
    → at (slice_get gs i) ++ take n (drop (suc i) gs) ≡ take (suc n) (drop i gs)
at_next [] zero zero = refl
at_next [] zero (suc n) = refl
at_next [] (suc i) zero = refl
at_next [] (suc i) (suc n) = refl
at_next (g ∷ gs) zero n = refl
at_next (g ∷ gs) (suc i) n = at_next gs i n

from_place : (gs : List Global) (n i : ℕ)
    → ordered gs (range_with_len i n) ≡ take n (drop i gs)
from_place gs zero i = refl
from_place gs (suc n) i =
    ap (λ (k : ℕ). at (slice_get gs i) ++ ordered gs (range_with_len k n)) (add-one i)
    ∙ (ap (λ (l : List Global). at (slice_get gs i) ++ l) (from_place gs n (suc i))
    ∙ at_next gs i n)

pub all_there : (gs : List Global) (n : ℕ) → length gs ≤ n → ordered gs (range_with_len 0 n) ≡ gs
all_there gs n few = from_place gs n 0 ∙ take_all n gs few

at_most_one : (counts : Bool) (p : Part Expr Pattern) → length (global_in counts p) ≤ 1
at_most_one false p = omega arith
at_most_one true (part.Global g) = omega arith
at_most_one true (part.Template t rules) = omega arith
at_most_one true (part.Function f) = omega arith
at_most_one true (part.Key keys) = omega arith
at_most_one true (part.Space rules) = omega arith
at_most_one true (part.Output omit) = omega arith
at_most_one true part.Ignored = omega arith
at_most_one true part.Linked = omega arith

-- there are no more globals than declarations
pub few_globals : (marks : List Bool) (ds : List (Declaration Expr Pattern))
    → length (each_by global_if marks ds) ≤ length ds
few_globals marks [] = omega arith
few_globals marks (d ∷ ds) =
    let one = at_most_one (is_marked marks) d.part in
    let rest = few_globals (behind marks) ds in
    let all = length-append (global_if (is_marked marks) d) (each_by global_if (behind marks) ds) in
    omega (arith, one, rest, all)

-- the first code of the front is the first of all
pub first_stays : (xs ys : List Code) (code : Code) → first xs ≡ Some code → first (xs ++ ys) ≡ Some code
first_stays [] ys code h = cc
first_stays (x ∷ xs) ys code h = h
