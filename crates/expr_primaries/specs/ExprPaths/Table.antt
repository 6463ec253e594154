-- What the productions of paths and primary expressions mean, from what their parts mean (XPath 2.0, 3.1 and 3.2).
use Rattle.std.specs.Prelude.{List}
use Rattle.xt_syntax.specs.declared.prefixes.Prefixes.{Prefixes}
use Rattle.xt_syntax.specs.declared.exprs.Expr.TheVariants as expr
use Rattle.expr_keys.specs.declared.productions.Production.{Production}
use Rattle.expr_keys.specs.declared.productions.Production.TheVariants as production
use Rattle.expr_rules.specs.declared.expr_meant.meant.Meant.{Meant}
use Rattle.expr_rules.specs.declared.expr_meant.meant.Meant.TheVariants as meant
use Rattle.expr_rules.specs.ExprMeant.Parts.{exprs_of, expr_in}
use Rattle.expr_primaries.specs.ExprPaths.Steps.{axis_step, attribute_step, test_step, parent_step, plain_kind, pi_kind, named_kind}
use Rattle.expr_primaries.specs.ExprPaths.Paths.{steps, root_steps, deep_steps, filtered}
use Rattle.expr_primaries.specs.ExprPaths.Primaries.{literal, variable, call}

unfoldable pub path_value : Prefixes → Production → List Meant → Meant
path_value p production.Rooted ms = meant.Expr expr.Root
path_value p production.RootSteps ms = meant.Expr (root_steps ms)
path_value p production.RootedDeep ms = meant.Expr (deep_steps ms)
path_value p production.Steps ms = meant.Expr (steps ms)
path_value p production.StepAfter ms = meant.Expr (expr_in ms)
path_value p production.DeepAfter ms = meant.Deep (expr_in ms)
path_value p production.AxisStep ms = meant.Expr (axis_step p.bound p.element_default ms)
path_value p production.AttributeStep ms = meant.Expr (attribute_step p.bound ms)
path_value p production.TestStep ms = meant.Expr (test_step p.bound p.element_default ms)
path_value p production.ParentStep ms = meant.Expr (parent_step ms)
path_value p production.FilterStep ms = meant.Expr (filtered ms)
path_value p production.PlainKind ms = meant.Kind (plain_kind ms)
path_value p production.PiKind ms = meant.Kind (pi_kind ms)
path_value p production.NamedKind ms = meant.Kind (named_kind p.bound p.element_default ms)
path_value p production.Number ms = meant.Expr (literal ms)
path_value p production.Literal ms = meant.Expr (literal ms)
path_value p production.Variable ms = meant.Expr (variable p.bound ms)
path_value p production.Parens ms = meant.Expr (expr_in ms)
path_value p production.Context ms = meant.Expr expr.Context
path_value p production.Call ms = meant.Expr (call p.bound p.function_default ms)
path_value p production.ArgumentList ms = meant.Arguments (exprs_of ms)
path_value p _ ms = meant.Mark
