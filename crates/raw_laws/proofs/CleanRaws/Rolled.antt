-- What makes each form of expression keep the rules: what makes its parts do so.
use Rattle.std.proofs.Common.{◌≡◌, Bool}
use Rattle.xt_syntax.specs.declared.exprs.Clause.{Clause}
use Rattle.xt_syntax.specs.declared.exprs.Expr.{Expr}
use Rattle.xt_syntax.specs.declared.exprs.NameSource.{NameSource}
use Rattle.xt_syntax.specs.declared.exprs.Part.{Part}
use Rattle.xt_syntax.specs.declared.exprs.Arm.{Arm}
use Rattle.xt_syntax.specs.declared.exprs.Bind.{Bind}
use Rattle.xt_syntax.specs.declared.exprs.DirectAttr.{DirectAttr}
use Rattle.xt_syntax.specs.declared.exprs.Flwor.{Flwor as FlworOf}
use Rattle.xt_syntax.specs.declared.exprs.Order.{Order}
use Rattle.xt_syntax.specs.declared.exprs.Clause.TheViews.{roll-Clause, roll-Expr, roll-NameSource}
use Rattle.xt_syntax.specs.declared.exprs.Clause.TheViews.{roll-Part, roll-Arm, roll-Bind}
use Rattle.xt_syntax.specs.declared.exprs.Clause.TheViews.{roll-DirectAttr, roll-Flwor, roll-Order}
use Rattle.xt_syntax.specs.declared.exprs.Clause.TheFolds.{map-Clause, fold-roll-Clause}
use Rattle.xt_syntax.specs.declared.exprs.Clause.TheFolds.{map-Expr, fold-roll-Expr}
use Rattle.xt_syntax.specs.declared.exprs.Clause.TheFolds.{map-NameSource, fold-roll-NameSource}
use Rattle.xt_syntax.specs.declared.exprs.Clause.TheFolds.{map-Part, fold-roll-Part}
use Rattle.xt_syntax.specs.declared.exprs.Clause.TheFolds.{map-Arm, fold-roll-Arm}
use Rattle.xt_syntax.specs.declared.exprs.Clause.TheFolds.{map-Bind, fold-roll-Bind}
use Rattle.xt_syntax.specs.declared.exprs.Clause.TheFolds.{map-DirectAttr, fold-roll-DirectAttr}
use Rattle.xt_syntax.specs.declared.exprs.Clause.TheFolds.{map-Flwor, fold-roll-Flwor}
use Rattle.xt_syntax.specs.declared.exprs.Clause.TheFolds.{map-Order, fold-roll-Order}
use Rattle.expr_raws.proofs.Induction.{OpenClause, OpenExpr, OpenName, OpenPart, OpenArm, OpenBind}
use Rattle.expr_raws.proofs.Induction.{OpenAttr, OpenFlwor, OpenOrder}
use Rattle.raw_laws.specs.CleanRaws.Keeps.{KeptBind, KeptAttr, keeps, keep_steps, expr_keeps, clause_keeps}
use Rattle.raw_laws.specs.CleanRaws.Keeps.{name_keeps, part_keeps, bind_keeps, attr_keeps, flwor_keeps}
use Rattle.raw_laws.specs.CleanRaws.Keeps.{keeps_rules, arm_keeps_rules, clause_keeps_rules, kept_bind}
use Rattle.raw_laws.specs.CleanRaws.Keeps.{order_keeps_rules, source_keeps_rules, kept_attr}
use Rattle.raw_laws.specs.CleanRaws.Keeps.{part_keeps_rules, flwor_keeps_rules}

abbrev pub clause_at : OpenClause → Bool
clause_at x = clause_keeps
    (map-Clause Clause Expr NameSource Part Arm Bind DirectAttr FlworOf Order
    keeps.Clauses keeps.Exprs keeps.Names keeps.Parts keeps.Arms keeps.Binds keeps.Attrs
    keeps.Flwors keeps.Orders clause_keeps_rules keeps_rules source_keeps_rules part_keeps_rules
    arm_keeps_rules kept_bind kept_attr flwor_keeps_rules order_keeps_rules x)

pub clause_rolled : (x : OpenClause) → clause_keeps_rules (roll-Clause x) ≡ clause_at x
clause_rolled x = fold-roll-Clause _ _ _ _ _ _ _ _ _ _ _ _ _ _ _ _ _ _ x

abbrev pub expr_at : OpenExpr → Bool
expr_at x = expr_keeps
    (map-Expr Clause Expr NameSource Part Arm Bind DirectAttr FlworOf Order
    keeps.Clauses keeps.Exprs keeps.Names keeps.Parts keeps.Arms keeps.Binds keeps.Attrs
    keeps.Flwors keeps.Orders clause_keeps_rules keeps_rules source_keeps_rules part_keeps_rules
    arm_keeps_rules kept_bind kept_attr flwor_keeps_rules order_keeps_rules x)

pub expr_rolled : (x : OpenExpr) → keeps_rules (roll-Expr x) ≡ expr_at x
expr_rolled x = fold-roll-Expr _ _ _ _ _ _ _ _ _ _ _ _ _ _ _ _ _ _ x

abbrev pub name_at : OpenName → Bool
name_at x = name_keeps
    (map-NameSource Clause Expr NameSource Part Arm Bind DirectAttr FlworOf Order
    keeps.Clauses keeps.Exprs keeps.Names keeps.Parts keeps.Arms keeps.Binds keeps.Attrs
    keeps.Flwors keeps.Orders clause_keeps_rules keeps_rules source_keeps_rules part_keeps_rules
    arm_keeps_rules kept_bind kept_attr flwor_keeps_rules order_keeps_rules x)

pub name_rolled : (x : OpenName) → source_keeps_rules (roll-NameSource x) ≡ name_at x
name_rolled x = fold-roll-NameSource _ _ _ _ _ _ _ _ _ _ _ _ _ _ _ _ _ _ x

abbrev pub part_at : OpenPart → Bool
part_at x = part_keeps
    (map-Part Clause Expr NameSource Part Arm Bind DirectAttr FlworOf Order
    keeps.Clauses keeps.Exprs keeps.Names keeps.Parts keeps.Arms keeps.Binds keeps.Attrs
    keeps.Flwors keeps.Orders clause_keeps_rules keeps_rules source_keeps_rules part_keeps_rules
    arm_keeps_rules kept_bind kept_attr flwor_keeps_rules order_keeps_rules x)

pub part_rolled : (x : OpenPart) → part_keeps_rules (roll-Part x) ≡ part_at x
part_rolled x = fold-roll-Part _ _ _ _ _ _ _ _ _ _ _ _ _ _ _ _ _ _ x

abbrev pub arm_at : OpenArm → Bool
arm_at x = keep_steps.of_arm
    (map-Arm Clause Expr NameSource Part Arm Bind DirectAttr FlworOf Order
    keeps.Clauses keeps.Exprs keeps.Names keeps.Parts keeps.Arms keeps.Binds keeps.Attrs
    keeps.Flwors keeps.Orders clause_keeps_rules keeps_rules source_keeps_rules part_keeps_rules
    arm_keeps_rules kept_bind kept_attr flwor_keeps_rules order_keeps_rules x)

pub arm_rolled : (x : OpenArm) → arm_keeps_rules (roll-Arm x) ≡ arm_at x
arm_rolled x = fold-roll-Arm _ _ _ _ _ _ _ _ _ _ _ _ _ _ _ _ _ _ x

abbrev pub bind_at : OpenBind → KeptBind
bind_at x = bind_keeps
    (map-Bind Clause Expr NameSource Part Arm Bind DirectAttr FlworOf Order
    keeps.Clauses keeps.Exprs keeps.Names keeps.Parts keeps.Arms keeps.Binds keeps.Attrs
    keeps.Flwors keeps.Orders clause_keeps_rules keeps_rules source_keeps_rules part_keeps_rules
    arm_keeps_rules kept_bind kept_attr flwor_keeps_rules order_keeps_rules x)

pub bind_rolled : (x : OpenBind) → kept_bind (roll-Bind x) ≡ bind_at x
bind_rolled x = fold-roll-Bind _ _ _ _ _ _ _ _ _ _ _ _ _ _ _ _ _ _ x

abbrev pub attr_at : OpenAttr → KeptAttr
attr_at x = attr_keeps
    (map-DirectAttr Clause Expr NameSource Part Arm Bind DirectAttr FlworOf Order
    keeps.Clauses keeps.Exprs keeps.Names keeps.Parts keeps.Arms keeps.Binds keeps.Attrs
    keeps.Flwors keeps.Orders clause_keeps_rules keeps_rules source_keeps_rules part_keeps_rules
    arm_keeps_rules kept_bind kept_attr flwor_keeps_rules order_keeps_rules x)

pub attr_rolled : (x : OpenAttr) → kept_attr (roll-DirectAttr x) ≡ attr_at x
attr_rolled x = fold-roll-DirectAttr _ _ _ _ _ _ _ _ _ _ _ _ _ _ _ _ _ _ x

abbrev pub flwor_at : OpenFlwor → Bool
flwor_at x = flwor_keeps
    (map-Flwor Clause Expr NameSource Part Arm Bind DirectAttr FlworOf Order
    keeps.Clauses keeps.Exprs keeps.Names keeps.Parts keeps.Arms keeps.Binds keeps.Attrs
    keeps.Flwors keeps.Orders clause_keeps_rules keeps_rules source_keeps_rules part_keeps_rules
    arm_keeps_rules kept_bind kept_attr flwor_keeps_rules order_keeps_rules x)

pub flwor_rolled : (x : OpenFlwor) → flwor_keeps_rules (roll-Flwor x) ≡ flwor_at x
flwor_rolled x = fold-roll-Flwor _ _ _ _ _ _ _ _ _ _ _ _ _ _ _ _ _ _ x

abbrev pub order_at : OpenOrder → Bool
order_at x = keep_steps.of_order
    (map-Order Clause Expr NameSource Part Arm Bind DirectAttr FlworOf Order
    keeps.Clauses keeps.Exprs keeps.Names keeps.Parts keeps.Arms keeps.Binds keeps.Attrs
    keeps.Flwors keeps.Orders clause_keeps_rules keeps_rules source_keeps_rules part_keeps_rules
    arm_keeps_rules kept_bind kept_attr flwor_keeps_rules order_keeps_rules x)

pub order_rolled : (x : OpenOrder) → order_keeps_rules (roll-Order x) ≡ order_at x
order_rolled x = fold-roll-Order _ _ _ _ _ _ _ _ _ _ _ _ _ _ _ _ _ _ x
