-- What the productions of operators, lists, conditionals, bindings and types mean, from what their parts mean (XPath 2.0, 2.5.3 and 3.3 to 3.10; XQuery 1.0, 3.8).
use Rattle.std.specs.Prelude.{List, true, false}
use Rattle.xt_types.specs.declared.types.SeqType.TheVariants as sequence
use Rattle.xt_syntax.specs.declared.prefixes.Prefixes.{Prefixes}
use Rattle.expr_keys.specs.declared.productions.Production.{Production}
use Rattle.expr_keys.specs.declared.productions.Production.TheVariants as production
use Rattle.expr_rules.specs.declared.expr_meant.meant.Meant.{Meant}
use Rattle.expr_rules.specs.declared.expr_meant.meant.Meant.TheVariants as meant
use Rattle.expr_rules.specs.ExprMeant.Parts.{expr_in}
use Rattle.expr_control.specs.Lists.{listed, conditional, quantified}
use Rattle.expr_control.specs.Types.{marked, typed, single}
use Rattle.expr_control.specs.Operators.{chained, operated, signed}
use Rattle.expr_control.specs.Bindings.{for_bind, let_bind, quant_bind, placed, clauses_in, orders_in, key_spec, flwor}

unfoldable pub control_value : Prefixes → Production → List Meant → Meant
control_value p production.ExprList ms = meant.Expr (listed ms)
control_value p production.IfExpr ms = meant.Expr (conditional ms)
control_value p production.FlworExpr ms = meant.Expr (flwor ms)
control_value p production.QuantifiedExpr ms = meant.Expr (quantified ms)
control_value p production.ForClause ms = meant.Clauses (clauses_in ms)
control_value p production.LetClause ms = meant.Clauses (clauses_in ms)
control_value p production.ForIn ms = for_bind p.bound ms
control_value p production.LetAssign ms = let_bind p.bound ms
control_value p production.QuantifiedIn ms = quant_bind p.bound ms
control_value p production.AsType ms = meant.Sequence (typed p.bound ms)
control_value p production.AtVariable ms = placed p.bound ms
control_value p production.WhereTest ms = meant.Where (expr_in ms)
control_value p production.OrderBy ms = meant.Orders false (orders_in ms)
control_value p production.StableOrderBy ms = meant.Orders true (orders_in ms)
control_value p production.OrderKey ms = key_spec ms
control_value p (production.OperatorChain l) ms = meant.Expr (chained l ms)
control_value p (production.OperatorTail l) ms = operated p.bound l ms
control_value p production.Signed ms = meant.Expr (signed ms)
control_value p production.EmptyType ms = meant.Sequence sequence.Empty
control_value p production.ItemsType ms = meant.Sequence (marked p.bound ms)
control_value p production.AnyItem ms = meant.AnyItem
control_value p production.SingleAtomicType ms = single p.bound ms
control_value p _ ms = meant.Mark
