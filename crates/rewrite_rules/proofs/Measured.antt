-- How large a form is, and how deep it nests, by its parts.
use Rattle.std.proofs.Common.{◌≡◌, ℕ, ◌+◌, ◌≤◌, max, List, [], ◌∷◌, ◌++◌, map, ap, sym, ◌∙◌, subst, arith}
use Rattle.std.specs.Prelude.{Bool, Option, Some, None}
use Rattle.xt_names.specs.declared.names.ExprName.{ExprName}
use Rattle.xt_forms.specs.Nest.{nests, nest_steps, nest_of, arm_nest_of, bind_nest_of}
use Rattle.xt_forms.specs.Nest.{clause_nest_of, order_nest_of, name_nest_of, part_nest_of, attr_nest_of}
use Rattle.xt_forms.specs.Nest.{flwor_nest_of}
use Rattle.xt_syntax.specs.Layers.{ExprLayer, arm_gives, bind_gives, clause_gives, order_gives}
use Rattle.xt_syntax.specs.Layers.{name_gives, part_gives, attr_gives, flwor_gives}
use Rattle.xt_syntax.specs.declared.exprs.Expr.{Expr}
use Rattle.xt_syntax.specs.declared.exprs.Arm.{Arm}
use Rattle.xt_syntax.specs.declared.exprs.Clause.{Clause}
use Rattle.xt_syntax.specs.declared.exprs.Order.{Order}
use Rattle.xt_syntax.specs.declared.exprs.Flwor.{Flwor as FlworOf}
use Rattle.xt_syntax.specs.declared.exprs.Bind.{Bind}
use Rattle.xt_syntax.specs.declared.exprs.NameSource.{NameSource}
use Rattle.xt_syntax.specs.declared.exprs.DirectAttr.{DirectAttr}
use Rattle.xt_syntax.specs.declared.exprs.Part.{Part}
use Rattle.xt_syntax.specs.declared.exprs.Clause.TheOpen.{For, Let, Flwor}
use Rattle.xt_syntax.specs.declared.exprs.Clause.TheViews.{out-Expr, roll-Expr, roll-out-Expr}
use Rattle.xt_syntax.specs.declared.exprs.Clause.TheViews.{out-Arm, roll-Arm, roll-out-Arm}
use Rattle.xt_syntax.specs.declared.exprs.Clause.TheViews.{out-Bind, roll-out-Bind}
use Rattle.xt_syntax.specs.declared.exprs.Clause.TheViews.{roll-Clause, roll-Flwor}
use Rattle.xt_syntax.specs.declared.exprs.Clause.TheFolds.{map-Expr, fold-roll-Expr, fold-roll-Arm}
use Rattle.xt_syntax.specs.declared.exprs.Clause.TheFolds.{fold-roll-Bind, fold-roll-Clause, fold-roll-Flwor}
use Rattle.rewrite_rules.specs.Forms.{ExprForm, ArmForm}
use Rattle.rewrite_rules.specs.Sizes.{within, size_steps, size_of}
use Rattle.xt_names.specs.Lists.{greatest, total}

-- sizes of parts
abbrev pub arm_size_of : Arm → ℕ
arm_size_of = arm_gives nests size_steps

abbrev pub bind_size_of : Bind → ℕ
bind_size_of = bind_gives nests size_steps

abbrev pub clause_size_of : Clause → ℕ
clause_size_of = clause_gives nests size_steps

abbrev pub order_size_of : Order → ℕ
order_size_of = order_gives nests size_steps

abbrev pub flwor_size_of : FlworOf → ℕ
flwor_size_of = flwor_gives nests size_steps

abbrev pub sized : ExprForm → ExprLayer nests
sized = map-Expr Clause Expr NameSource Part Arm Bind DirectAttr FlworOf Order ℕ ℕ ℕ ℕ ℕ ℕ ℕ ℕ ℕ
    clause_size_of size_of (name_gives nests size_steps) (part_gives nests size_steps) arm_size_of
    bind_size_of (attr_gives nests size_steps) flwor_size_of order_size_of

abbrev pub nested : ExprForm → ExprLayer nests
nested = map-Expr Clause Expr NameSource Part Arm Bind DirectAttr FlworOf Order ℕ ℕ ℕ ℕ ℕ ℕ ℕ ℕ ℕ
    clause_nest_of nest_of name_nest_of part_nest_of arm_nest_of bind_nest_of attr_nest_of flwor_nest_of
    order_nest_of

pub size_rolled : (x : ExprForm) → size_of (roll-Expr x) ≡ 1 + within (sized x)
size_rolled x = fold-roll-Expr _ _ _ _ _ _ _ _ _ _ _ _ _ _ _ _ _ _ x

pub nest_rolled : (x : ExprForm) → nest_of (roll-Expr x) ≡ nest_steps.of_expr (nested x)
nest_rolled x = fold-roll-Expr _ _ _ _ _ _ _ _ _ _ _ _ _ _ _ _ _ _ x

pub arm_size_rolled : (x : ArmForm) → arm_size_of (roll-Arm x) ≡ size_of x.test + size_of x.then
arm_size_rolled x = fold-roll-Arm _ _ _ _ _ _ _ _ _ _ _ _ _ _ _ _ _ _ x

pub arm_nest_rolled : (x : ArmForm) → arm_nest_of (roll-Arm x) ≡ max (nest_of x.test) (nest_of x.then)
arm_nest_rolled x = fold-roll-Arm _ _ _ _ _ _ _ _ _ _ _ _ _ _ _ _ _ _ x

pub arm_size : (a : Arm) → arm_size_of a ≡ size_of (out-Arm a).test + size_of (out-Arm a).then
arm_size a = ap arm_size_of (sym (roll-out-Arm a)) ∙ arm_size_rolled (out-Arm a)

pub arm_nest : (a : Arm) → arm_nest_of a ≡ max (nest_of (out-Arm a).test) (nest_of (out-Arm a).then)
arm_nest a = ap arm_nest_of (sym (roll-out-Arm a)) ∙ arm_nest_rolled (out-Arm a)

pub for_size : (b : Bind) (place : Option ExprName) → clause_size_of (roll-Clause (For b place)) ≡ 1 + bind_size_of b
for_size b place = fold-roll-Clause _ _ _ _ _ _ _ _ _ _ _ _ _ _ _ _ _ _ (For b place)

pub let_size : (b : Bind) → clause_size_of (roll-Clause (Let b)) ≡ bind_size_of b
let_size b = fold-roll-Clause _ _ _ _ _ _ _ _ _ _ _ _ _ _ _ _ _ _ (Let b)

pub for_nest : (b : Bind) (place : Option ExprName) → clause_nest_of (roll-Clause (For b place)) ≡ bind_nest_of b
for_nest b place = fold-roll-Clause _ _ _ _ _ _ _ _ _ _ _ _ _ _ _ _ _ _ (For b place)

pub let_nest : (b : Bind) → clause_nest_of (roll-Clause (Let b)) ≡ bind_nest_of b
let_nest b = fold-roll-Clause _ _ _ _ _ _ _ _ _ _ _ _ _ _ _ _ _ _ (Let b)

pub bind_size : (b : Bind) → bind_size_of b ≡ size_of (out-Bind b).source
bind_size b = ap bind_size_of (sym (roll-out-Bind b))
    ∙ fold-roll-Bind _ _ _ _ _ _ _ _ _ _ _ _ _ _ _ _ _ _ (out-Bind b)

pub bind_nest : (b : Bind) → bind_nest_of b ≡ nest_of (out-Bind b).source
bind_nest b = ap bind_nest_of (sym (roll-out-Bind b))
    ∙ fold-roll-Bind _ _ _ _ _ _ _ _ _ _ _ _ _ _ _ _ _ _ (out-Bind b)

abbrev pub one_size : Option Expr → ℕ
one_size None = 0
one_size (Some e) = size_of e

abbrev pub one_nest : Option Expr → ℕ
one_nest None = 0
one_nest (Some e) = nest_of e

-- a FLWOR expression
pub flow_size : (cs : List Clause) (test : Option Expr) (os : List Order) (s : Bool) (body : Expr) →
    size_of (roll-Expr (Flwor (roll-Flwor (record { clauses = cs; test = test; orders = os; stable = s; body = body }))))
    ≡ 1 + (total (map clause_size_of cs) + (one_size test + (total (map order_size_of os) + size_of body)))
flow_size cs None os s body =
    size_rolled (Flwor (roll-Flwor (record { clauses = cs; test = None; orders = os; stable = s; body = body })))
    ∙ ap (λ n. 1 + n) (fold-roll-Flwor _ _ _ _ _ _ _ _ _ _ _ _ _ _ _ _ _ _
    (record { clauses = cs; test = None; orders = os; stable = s; body = body }))
flow_size cs (Some e) os s body =
    size_rolled (Flwor (roll-Flwor (record { clauses = cs; test = Some e; orders = os; stable = s; body = body })))
    ∙ ap (λ n. 1 + n) (fold-roll-Flwor _ _ _ _ _ _ _ _ _ _ _ _ _ _ _ _ _ _
    (record { clauses = cs; test = Some e; orders = os; stable = s; body = body }))

pub flow_nest : (cs : List Clause) (test : Option Expr) (os : List Order) (s : Bool) (body : Expr) →
    nest_of (roll-Expr (Flwor (roll-Flwor (record { clauses = cs; test = test; orders = os; stable = s; body = body }))))
    ≡ 1 + max (greatest (map clause_nest_of cs)) (max (one_nest test) (max (greatest (map order_nest_of os)) (nest_of body)))
flow_nest cs None os s body =
    nest_rolled (Flwor (roll-Flwor (record { clauses = cs; test = None; orders = os; stable = s; body = body })))
    ∙ ap (λ n. 1 + n) (fold-roll-Flwor _ _ _ _ _ _ _ _ _ _ _ _ _ _ _ _ _ _
    (record { clauses = cs; test = None; orders = os; stable = s; body = body }))
flow_nest cs (Some e) os s body =
    nest_rolled (Flwor (roll-Flwor (record { clauses = cs; test = Some e; orders = os; stable = s; body = body })))
    ∙ ap (λ n. 1 + n) (fold-roll-Flwor _ _ _ _ _ _ _ _ _ _ _ _ _ _ _ _ _ _
    (record { clauses = cs; test = Some e; orders = os; stable = s; body = body }))

-- every expression counts
pub positive : (e : Expr) → 1 ≤ size_of e
positive e = subst (λ z. 1 ≤ size_of z) (roll-out-Expr e)
    (subst (λ n. 1 ≤ n) (sym (size_rolled (out-Expr e))) (more (within (sized (out-Expr e)))))
  where
    more : (n : ℕ) → 1 ≤ 1 + n
    more n = omega arith

pub total_append : (xs ys : List ℕ) → total (xs ++ ys) ≡ total xs + total ys
total_append [] ys = omega arith
total_append (x ∷ xs) ys = let h : total (xs ++ ys) ≡ total xs + total ys = total_append xs ys in omega arith

pub greatest_append : (xs ys : List ℕ) → greatest (xs ++ ys) ≡ max (greatest xs) (greatest ys)
greatest_append [] ys = grind arith
greatest_append (x ∷ xs) ys =
    ap (max x) (greatest_append xs ys) ∙ assoc x (greatest xs) (greatest ys)
  where
    assoc : (a b c : ℕ) → max a (max b c) ≡ max (max a b) c
    assoc a b c = grind arith

pub max_below : (a b n : ℕ) → a ≤ n → b ≤ n → max a b ≤ n
max_below a b n h i = grind arith

pub max_left : (a b : ℕ) → a ≤ max a b
max_left a b = grind arith

pub max_right : (a b : ℕ) → b ≤ max a b
max_right a b = grind arith

pub max_grows : (a b c d : ℕ) → a ≤ c → b ≤ d → max a b ≤ max c d
max_grows a b c d h i = grind arith

pub le_trans : (a b c : ℕ) → a ≤ b → b ≤ c → a ≤ c
le_trans a b c h i = omega arith
