-- How deep each form of expression nests, by its parts.
use Rattle.std.proofs.Common.{◌≡◌, ℕ}
use Rattle.xt_syntax.specs.declared.exprs.Clause.{Clause}
use Rattle.xt_syntax.specs.declared.exprs.Expr.{Expr}
use Rattle.xt_syntax.specs.declared.exprs.NameSource.{NameSource}
use Rattle.xt_syntax.specs.declared.exprs.Part.{Part}
use Rattle.xt_syntax.specs.declared.exprs.Arm.{Arm}
use Rattle.xt_syntax.specs.declared.exprs.Bind.{Bind}
use Rattle.xt_syntax.specs.declared.exprs.DirectAttr.{DirectAttr}
use Rattle.xt_syntax.specs.declared.exprs.Flwor.{Flwor as FlworOf}
use Rattle.xt_syntax.specs.declared.exprs.Order.{Order}
use Rattle.xt_syntax.specs.declared.exprs.Clause.TheViews.{roll-Clause, roll-Expr, roll-NameSource}
use Rattle.xt_syntax.specs.declared.exprs.Clause.TheViews.{roll-Part, roll-Arm, roll-Bind}
use Rattle.xt_syntax.specs.declared.exprs.Clause.TheViews.{roll-DirectAttr, roll-Flwor, roll-Order}
use Rattle.xt_syntax.specs.declared.exprs.Clause.TheFolds.{map-Clause, fold-roll-Clause}
use Rattle.xt_syntax.specs.declared.exprs.Clause.TheFolds.{map-Expr, fold-roll-Expr}
use Rattle.xt_syntax.specs.declared.exprs.Clause.TheFolds.{map-NameSource, fold-roll-NameSource}
use Rattle.xt_syntax.specs.declared.exprs.Clause.TheFolds.{map-Part, fold-roll-Part}
use Rattle.xt_syntax.specs.declared.exprs.Clause.TheFolds.{map-Arm, fold-roll-Arm}
use Rattle.xt_syntax.specs.declared.exprs.Clause.TheFolds.{map-Bind, fold-roll-Bind}
use Rattle.xt_syntax.specs.declared.exprs.Clause.TheFolds.{map-DirectAttr, fold-roll-DirectAttr}
use Rattle.xt_syntax.specs.declared.exprs.Clause.TheFolds.{map-Flwor, fold-roll-Flwor}
use Rattle.xt_syntax.specs.declared.exprs.Clause.TheFolds.{map-Order, fold-roll-Order}
use Rattle.expr_raws.proofs.Induction.{OpenClause, OpenExpr, OpenName, OpenPart, OpenArm, OpenBind}
use Rattle.expr_raws.proofs.Induction.{OpenAttr, OpenFlwor, OpenOrder}
use Rattle.xt_forms.specs.Nest.{nests, nest_steps, expr_nest, clause_nest, name_nest, part_nest}
use Rattle.xt_forms.specs.Nest.{flwor_nest, nest_of, arm_nest_of, clause_nest_of, bind_nest_of}
use Rattle.xt_forms.specs.Nest.{order_nest_of, name_nest_of, attr_nest_of, part_nest_of}
use Rattle.xt_forms.specs.Nest.{flwor_nest_of}

abbrev pub clause_at : OpenClause → ℕ
clause_at x = clause_nest
    (map-Clause Clause Expr NameSource Part Arm Bind DirectAttr FlworOf Order
    nests.Clauses nests.Exprs nests.Names nests.Parts nests.Arms nests.Binds nests.Attrs
    nests.Flwors nests.Orders clause_nest_of nest_of name_nest_of part_nest_of arm_nest_of
    bind_nest_of attr_nest_of flwor_nest_of order_nest_of x)

pub clause_rolled : (x : OpenClause) → clause_nest_of (roll-Clause x) ≡ clause_at x
clause_rolled x = fold-roll-Clause _ _ _ _ _ _ _ _ _ _ _ _ _ _ _ _ _ _ x

abbrev pub expr_at : OpenExpr → ℕ
expr_at x = expr_nest
    (map-Expr Clause Expr NameSource Part Arm Bind DirectAttr FlworOf Order
    nests.Clauses nests.Exprs nests.Names nests.Parts nests.Arms nests.Binds nests.Attrs
    nests.Flwors nests.Orders clause_nest_of nest_of name_nest_of part_nest_of arm_nest_of
    bind_nest_of attr_nest_of flwor_nest_of order_nest_of x)

pub expr_rolled : (x : OpenExpr) → nest_of (roll-Expr x) ≡ expr_at x
expr_rolled x = fold-roll-Expr _ _ _ _ _ _ _ _ _ _ _ _ _ _ _ _ _ _ x

abbrev pub name_at : OpenName → ℕ
name_at x = name_nest
    (map-NameSource Clause Expr NameSource Part Arm Bind DirectAttr FlworOf Order
    nests.Clauses nests.Exprs nests.Names nests.Parts nests.Arms nests.Binds nests.Attrs
    nests.Flwors nests.Orders clause_nest_of nest_of name_nest_of part_nest_of arm_nest_of
    bind_nest_of attr_nest_of flwor_nest_of order_nest_of x)

pub name_rolled : (x : OpenName) → name_nest_of (roll-NameSource x) ≡ name_at x
name_rolled x = fold-roll-NameSource _ _ _ _ _ _ _ _ _ _ _ _ _ _ _ _ _ _ x

abbrev pub part_at : OpenPart → ℕ
part_at x = part_nest
    (map-Part Clause Expr NameSource Part Arm Bind DirectAttr FlworOf Order
    nests.Clauses nests.Exprs nests.Names nests.Parts nests.Arms nests.Binds nests.Attrs
    nests.Flwors nests.Orders clause_nest_of nest_of name_nest_of part_nest_of arm_nest_of
    bind_nest_of attr_nest_of flwor_nest_of order_nest_of x)

pub part_rolled : (x : OpenPart) → part_nest_of (roll-Part x) ≡ part_at x
part_rolled x = fold-roll-Part _ _ _ _ _ _ _ _ _ _ _ _ _ _ _ _ _ _ x

abbrev pub arm_at : OpenArm → ℕ
arm_at x = nest_steps.of_arm
    (map-Arm Clause Expr NameSource Part Arm Bind DirectAttr FlworOf Order
    nests.Clauses nests.Exprs nests.Names nests.Parts nests.Arms nests.Binds nests.Attrs
    nests.Flwors nests.Orders clause_nest_of nest_of name_nest_of part_nest_of arm_nest_of
    bind_nest_of attr_nest_of flwor_nest_of order_nest_of x)

pub arm_rolled : (x : OpenArm) → arm_nest_of (roll-Arm x) ≡ arm_at x
arm_rolled x = fold-roll-Arm _ _ _ _ _ _ _ _ _ _ _ _ _ _ _ _ _ _ x

abbrev pub bind_at : OpenBind → ℕ
bind_at x = nest_steps.of_bind
    (map-Bind Clause Expr NameSource Part Arm Bind DirectAttr FlworOf Order
    nests.Clauses nests.Exprs nests.Names nests.Parts nests.Arms nests.Binds nests.Attrs
    nests.Flwors nests.Orders clause_nest_of nest_of name_nest_of part_nest_of arm_nest_of
    bind_nest_of attr_nest_of flwor_nest_of order_nest_of x)

pub bind_rolled : (x : OpenBind) → bind_nest_of (roll-Bind x) ≡ bind_at x
bind_rolled x = fold-roll-Bind _ _ _ _ _ _ _ _ _ _ _ _ _ _ _ _ _ _ x

abbrev pub attr_at : OpenAttr → ℕ
attr_at x = nest_steps.of_attr
    (map-DirectAttr Clause Expr NameSource Part Arm Bind DirectAttr FlworOf Order
    nests.Clauses nests.Exprs nests.Names nests.Parts nests.Arms nests.Binds nests.Attrs
    nests.Flwors nests.Orders clause_nest_of nest_of name_nest_of part_nest_of arm_nest_of
    bind_nest_of attr_nest_of flwor_nest_of order_nest_of x)

pub attr_rolled : (x : OpenAttr) → attr_nest_of (roll-DirectAttr x) ≡ attr_at x
attr_rolled x = fold-roll-DirectAttr _ _ _ _ _ _ _ _ _ _ _ _ _ _ _ _ _ _ x

abbrev pub flwor_at : OpenFlwor → ℕ
flwor_at x = flwor_nest
    (map-Flwor Clause Expr NameSource Part Arm Bind DirectAttr FlworOf Order
    nests.Clauses nests.Exprs nests.Names nests.Parts nests.Arms nests.Binds nests.Attrs
    nests.Flwors nests.Orders clause_nest_of nest_of name_nest_of part_nest_of arm_nest_of
    bind_nest_of attr_nest_of flwor_nest_of order_nest_of x)

pub flwor_rolled : (x : OpenFlwor) → flwor_nest_of (roll-Flwor x) ≡ flwor_at x
flwor_rolled x = fold-roll-Flwor _ _ _ _ _ _ _ _ _ _ _ _ _ _ _ _ _ _ x

abbrev pub order_at : OpenOrder → ℕ
order_at x = nest_steps.of_order
    (map-Order Clause Expr NameSource Part Arm Bind DirectAttr FlworOf Order
    nests.Clauses nests.Exprs nests.Names nests.Parts nests.Arms nests.Binds nests.Attrs
    nests.Flwors nests.Orders clause_nest_of nest_of name_nest_of part_nest_of arm_nest_of
    bind_nest_of attr_nest_of flwor_nest_of order_nest_of x)

pub order_rolled : (x : OpenOrder) → order_nest_of (roll-Order x) ≡ order_at x
order_rolled x = fold-roll-Order _ _ _ _ _ _ _ _ _ _ _ _ _ _ _ _ _ _ x
