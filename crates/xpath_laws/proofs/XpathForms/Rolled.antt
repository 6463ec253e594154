-- What a form of expression gives, from what its parts give.
use Rattle.std.proofs.Common.{◌≡◌}
use Rattle.xt_syntax.specs.Layers.{expr_gives, clause_gives, name_gives, part_gives, arm_gives}
use Rattle.xt_syntax.specs.Layers.{bind_gives, attr_gives, flwor_gives, order_gives, Kinds, Steps}
use Rattle.xt_syntax.specs.declared.exprs.Expr.{Expr}
use Rattle.xt_syntax.specs.declared.exprs.Clause.{Clause}
use Rattle.xt_syntax.specs.declared.exprs.NameSource.{NameSource}
use Rattle.xt_syntax.specs.declared.exprs.Part.{Part}
use Rattle.xt_syntax.specs.declared.exprs.Arm.{Arm}
use Rattle.xt_syntax.specs.declared.exprs.Bind.{Bind}
use Rattle.xt_syntax.specs.declared.exprs.DirectAttr.{DirectAttr}
use Rattle.xt_syntax.specs.declared.exprs.Flwor.{Flwor as FlworOf}
use Rattle.xt_syntax.specs.declared.exprs.Order.{Order}
use Rattle.xt_syntax.specs.declared.exprs.Clause.TheOpen.{Expr-F, Clause-F, Flwor-F}
use Rattle.xt_syntax.specs.declared.exprs.Clause.TheViews.{roll-Expr, roll-Clause, roll-Flwor, out-Arm}
use Rattle.xt_syntax.specs.declared.exprs.Clause.TheViews.{out-Bind}
use Rattle.xt_syntax.specs.declared.exprs.Clause.TheFolds.{fold-roll-Expr, fold-roll-Clause}
use Rattle.xt_syntax.specs.declared.exprs.Clause.TheFolds.{fold-roll-Flwor, fold_out-Arm, fold_out-Bind}
use Rattle.xt_syntax.specs.declared.exprs.Clause.TheFolds.{map-Expr, map-Clause, map-Flwor}

abbrev pub Exprs : Type 0
Exprs = Expr-F Clause Expr NameSource Part Arm Bind DirectAttr FlworOf Order

abbrev pub Clauses : Type 0
Clauses = Clause-F Clause Expr NameSource Part Arm Bind DirectAttr FlworOf Order

abbrev pub Flwors : Type 0
Flwors = Flwor-F Clause Expr NameSource Part Arm Bind DirectAttr FlworOf Order

-- a form, where its parts are given
module _ (k : Kinds) (s : Steps k) where
  abbrev pub expr_at : Exprs → k.Exprs
  expr_at x = s.of_expr
      (map-Expr Clause Expr NameSource Part Arm Bind DirectAttr FlworOf Order k.Clauses k.Exprs
      k.Names k.Parts k.Arms k.Binds k.Attrs k.Flwors k.Orders (clause_gives k s) (expr_gives k s)
      (name_gives k s) (part_gives k s) (arm_gives k s) (bind_gives k s) (attr_gives k s)
      (flwor_gives k s) (order_gives k s) x)

  pub expr_rolled : (x : Exprs) → expr_gives k s (roll-Expr x) ≡ expr_at x
  expr_rolled x = fold-roll-Expr _ _ _ _ _ _ _ _ _ _ _ _ _ _ _ _ _ _ x

  abbrev pub clause_at : Clauses → k.Clauses
  clause_at x = s.of_clause
      (map-Clause Clause Expr NameSource Part Arm Bind DirectAttr FlworOf Order k.Clauses k.Exprs
      k.Names k.Parts k.Arms k.Binds k.Attrs k.Flwors k.Orders (clause_gives k s) (expr_gives k s)
      (name_gives k s) (part_gives k s) (arm_gives k s) (bind_gives k s) (attr_gives k s)
      (flwor_gives k s) (order_gives k s) x)

  pub clause_rolled : (x : Clauses) → clause_gives k s (roll-Clause x) ≡ clause_at x
  clause_rolled x = fold-roll-Clause _ _ _ _ _ _ _ _ _ _ _ _ _ _ _ _ _ _ x

  abbrev pub flwor_at : Flwors → k.Flwors
  flwor_at x = s.of_flwor
      (map-Flwor Clause Expr NameSource Part Arm Bind DirectAttr FlworOf Order k.Clauses k.Exprs
      k.Names k.Parts k.Arms k.Binds k.Attrs k.Flwors k.Orders (clause_gives k s) (expr_gives k s)
      (name_gives k s) (part_gives k s) (arm_gives k s) (bind_gives k s) (attr_gives k s)
      (flwor_gives k s) (order_gives k s) x)

  pub flwor_rolled : (x : Flwors) → flwor_gives k s (roll-Flwor x) ≡ flwor_at x
  flwor_rolled x = fold-roll-Flwor _ _ _ _ _ _ _ _ _ _ _ _ _ _ _ _ _ _ x

  pub arm_outs : (a : Arm) → arm_gives k s a ≡ s.of_arm (record {
    test = expr_gives k s (out-Arm a).test;
    then = expr_gives k s (out-Arm a).then;
  })
  arm_outs a = fold_out-Arm _ _ _ _ _ _ _ _ _ _ _ _ _ _ _ _ _ _ a

  pub bind_outs : (b : Bind) → bind_gives k s b ≡ s.of_bind (record {
    var = (out-Bind b).var;
    kind = (out-Bind b).kind;
    source = expr_gives k s (out-Bind b).source;
  })
  bind_outs b = fold_out-Bind _ _ _ _ _ _ _ _ _ _ _ _ _ _ _ _ _ _ b
