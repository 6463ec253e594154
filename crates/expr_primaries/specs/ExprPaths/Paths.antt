-- What paths mean (XPath 2.0, 3.2).
use Rattle.std.specs.Prelude.{List, [], ◌∷◌}
use Rattle.xt_types.specs.declared.axes.Axis.TheVariants as axis
use Rattle.xt_types.specs.declared.node_tests.Test.TheVariants as test
use Rattle.xt_syntax.specs.declared.exprs.Expr.{Expr}
use Rattle.xt_syntax.specs.declared.exprs.Expr.TheVariants as expr
use Rattle.expr_rules.specs.declared.expr_meant.meant.Meant.{Meant}
use Rattle.expr_rules.specs.declared.expr_meant.meant.Meant.TheVariants as meant
use Rattle.expr_rules.specs.ExprMeant.Parts.{expr_of, exprs_of}

-- `//` stands for `/descendant-or-self::node()/`
abbrev pub deep : Expr → Expr
deep a = expr.Slash a (expr.Step axis.DescendantOrSelf test.Node [])

unfoldable pub stepped : Expr → Meant → Expr
stepped a (meant.Deep e) = expr.Slash (deep a) e
stepped a m = expr.Slash a (expr_of m)

-- the steps after one another
abbrev pub path_from : Expr → List Meant → Expr
path_from a [] = a
path_from a (m ∷ ms) = path_from (stepped a m) ms

-- a/b//c
abbrev pub steps : List Meant → Expr
steps [] = expr.Comma []
steps (m ∷ ms) = path_from (expr_of m) ms

-- /a/b
abbrev pub root_steps : List Meant → Expr
root_steps ms = path_from expr.Root ms

-- //a/b
abbrev pub deep_steps : List Meant → Expr
deep_steps ms = path_from (deep expr.Root) ms

-- a[p]..
abbrev pub filtered : List Meant → Expr
filtered [] = expr.Comma []
filtered (m ∷ ms) = expr.Filter (expr_of m) (exprs_of ms)
