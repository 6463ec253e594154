-- The parts of a predicate nest less than it does.
use Rattle.std.proofs.Common.{◌≡◌, ℕ, zero, suc, ◌+◌, ◌<◌, ◌≤◌, max, List, [], ◌∷◌, map, length, get_or, ap, sym, ◌∙◌, Bool, true, false, arith}
use Rattle.std.specs.Prelude.{Some, None, if◌then◌else◌}
use Rattle.xt_syntax.specs.declared.exprs.Expr.{Expr}
use Rattle.xt_syntax.specs.declared.exprs.Arm.{Arm}
use Rattle.xt_syntax.specs.declared.exprs.Clause.{Clause}
use Rattle.xt_syntax.specs.declared.exprs.Order.{Order}
use Rattle.xt_syntax.specs.declared.exprs.Flwor.{Flwor as FlworOf}
use Rattle.xt_syntax.specs.declared.exprs.Bind.{Bind}
use Rattle.xt_syntax.specs.declared.exprs.NameSource.{NameSource}
use Rattle.xt_syntax.specs.declared.exprs.DirectAttr.{DirectAttr}
use Rattle.xt_syntax.specs.declared.exprs.Part.{Part}
use Rattle.xt_syntax.specs.declared.exprs.Expr.TheVariants as expr
use Rattle.xt_syntax.specs.declared.exprs.Expr.TheVariants.{rolls-Or, rolls-And}
use Rattle.xt_syntax.specs.declared.exprs.Clause.TheViews.{out-Expr}
use Rattle.xt_syntax.specs.declared.exprs.Clause.TheFolds.{map-Expr, fold_out-Expr, fold-roll-Expr}
use Rattle.xt_syntax.specs.declared.exprs.Clause.TheOpen.{Or, And, General, Slash, Step, Call}
use Rattle.xt_syntax.specs.Layers.{ExprLayer}
use Rattle.xt_forms.specs.Nest.{nests, expr_nest, nest_of, arm_nest_of, bind_nest_of, clause_nest_of, order_nest_of, name_nest_of, part_nest_of, attr_nest_of, flwor_nest_of}
use Rattle.xt_forms.specs.Quiet.{quiet_call}
use Rattle.quiet_eval.specs.Subjects.{Layer, is_not, only, negated_in, negated_part, subject_of, subject_part, decided_by, path_part}
use Rattle.xt_names.specs.Lists.{greatest}

-- a form with the nesting of each part in its place
abbrev nested : Layer → ExprLayer nests
nested = map-Expr Clause Expr NameSource Part Arm Bind DirectAttr FlworOf Order ℕ ℕ ℕ ℕ ℕ ℕ ℕ ℕ ℕ clause_nest_of nest_of name_nest_of part_nest_of arm_nest_of bind_nest_of attr_nest_of flwor_nest_of order_nest_of

nest_out : (e : Expr) → nest_of e ≡ expr_nest (nested (out-Expr e))
nest_out e = fold_out-Expr _ _ _ _ _ _ _ _ _ _ _ _ _ _ _ _ _ _ e

pub in_greatest : (all : List Expr) (i : ℕ) (x d : Expr) → i < length all → x ≡ get_or all i d → nest_of x ≤ greatest (map nest_of all)
in_greatest [] i x d h e = absurd (omega arith)
in_greatest (y ∷ ys) zero x d h e = let s : nest_of x ≡ nest_of y = ap nest_of e in omega (arith, s)
in_greatest (y ∷ ys) (suc i) x d h e = let r = in_greatest ys i x d (omega arith) e in omega (arith, r)

only_nest : (args : List Expr) (p : Expr) → only args ≡ Some p → nest_of p ≤ greatest (map nest_of args)
only_nest [] p h = absurd cc
only_nest (a ∷ []) p h = let e : a ≡ p = cc in let s : nest_of a ≡ nest_of p = ap nest_of e in omega (arith, s)
only_nest (a ∷ b ∷ more) p h = absurd cc

same_nest : (e p : Expr) → Some e ≡ Some p → nest_of p ≤ nest_of e
same_nest e p h = let same : e ≡ p = cc in let s : nest_of e ≡ nest_of p = ap nest_of same in omega (arith, s)

subject_layer : (e p : Expr) (x : Layer) → nest_of e ≡ expr_nest (nested x) → subject_of e x ≡ Some p → nest_of p ≤ nest_of e
subject_layer e p (Call name args) is h = let r = only_nest args p h in let i : nest_of e ≡ 1 + greatest (map nest_of args) = is in omega (arith, r, i)
subject_layer e p (Slash a b) is h = same_nest e p h
subject_layer e p (Step along wanted tests) is h = same_nest e p h
subject_layer e p x is h = absurd cc

subject_nest : (e p : Expr) → subject_part e ≡ Some p → nest_of p ≤ nest_of e
subject_nest e p h = subject_layer e p (out-Expr e) (nest_out e) h

path_layer : (e p : Expr) (x : Layer) → nest_of e ≡ expr_nest (nested x) → decided_by e x ≡ Some p → nest_of p ≤ nest_of e
path_layer e p (General op a b) is h = let r = subject_nest a p h in let i : nest_of e ≡ 1 + max (nest_of a) (nest_of b) = is in omega (arith, r, i)
path_layer e p (Call name args) is h = subject_layer e p (Call name args) is h
path_layer e p (Slash a b) is h = subject_layer e p (Slash a b) is h
path_layer e p (Step along wanted tests) is h = subject_layer e p (Step along wanted tests) is h
path_layer e p x is h = absurd cc

-- the path by which it is decided
pub path_nest : (e p : Expr) → path_part e ≡ Some p → nest_of p ≤ nest_of e
path_nest e p h = path_layer e p (out-Expr e) (nest_out e) h

negated_layer : (e p : Expr) (x : Layer) → nest_of e ≡ expr_nest (nested x) → negated_in x ≡ Some p → nest_of p < nest_of e
negated_layer e p (Call name args) is h = by (is_not (quiet_call name)) h
  where
    by : (b : Bool) → (if b then only args else None) ≡ Some p → nest_of p < nest_of e
    by true g = let r = only_nest args p g in let i : nest_of e ≡ 1 + greatest (map nest_of args) = is in omega (arith, r, i)
    by false g = absurd cc
negated_layer e p x is h = absurd cc

pub negated_nest : (e p : Expr) → negated_part e ≡ Some p → nest_of p < nest_of e
negated_nest e p h = negated_layer e p (out-Expr e) (nest_out e) h

pub or_nest : (e : Expr) (all xs : List Expr) → e ≡ expr.Or all → xs ≡ all → greatest (map nest_of xs) < nest_of e
or_nest e all xs h g =
    let i : nest_of (expr.Or all) ≡ 1 + greatest (map nest_of all) = ap nest_of (sym (rolls-Or all)) ∙ fold-roll-Expr _ _ _ _ _ _ _ _ _ _ _ _ _ _ _ _ _ _ (Or all) in
    let j = ap nest_of h in let k = ap (λ (z : List Expr). greatest (map nest_of z)) g in omega (arith, i, j, k)

pub and_nest : (e : Expr) (all xs : List Expr) → e ≡ expr.And all → xs ≡ all → greatest (map nest_of xs) < nest_of e
and_nest e all xs h g =
    let i : nest_of (expr.And all) ≡ 1 + greatest (map nest_of all) = ap nest_of (sym (rolls-And all)) ∙ fold-roll-Expr _ _ _ _ _ _ _ _ _ _ _ _ _ _ _ _ _ _ (And all) in
    let j = ap nest_of h in let k = ap (λ (z : List Expr). greatest (map nest_of z)) g in omega (arith, i, j, k)
