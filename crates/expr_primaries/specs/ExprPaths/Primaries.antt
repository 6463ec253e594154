-- What primary expressions mean (XPath 2.0, 3.1).
use Rattle.std.specs.Prelude.{ℕ, List, [], ◌∷◌, Option, Some, None, true}
use Rattle.xt_names.specs.declared.names.Binding.{Binding}
use Rattle.xt_names.specs.declared.names.ExprName.{ExprName}
use Rattle.xt_names.specs.declared.kinds.AtomType.{AtomType}
use Rattle.xt_syntax.specs.declared.exprs.Expr.{Expr}
use Rattle.xt_syntax.specs.declared.exprs.Expr.TheVariants as expr
use Rattle.expr_rules.specs.ExprNames.Types.{type_named, call_type}
use Rattle.expr_keys.specs.declared.tokens.Token.{Token}
use Rattle.expr_keys.specs.declared.tokens.Token.TheVariants as token
use Rattle.expr_rules.specs.declared.expr_meant.meant.Meant.{Meant}
use Rattle.expr_rules.specs.declared.expr_meant.meant.Meant.TheVariants as meant
use Rattle.expr_rules.specs.Known.{name_of}
use Rattle.expr_rules.specs.Rules.{args_of}

unfoldable pub literal_in : Token → Expr
literal_in (token.Digits n) = expr.Int n
literal_in (token.Quoted text) = expr.Str text
literal_in _ = expr.Comma []

unfoldable pub literal_of : Meant → Expr
literal_of (meant.Token t) = literal_in t
literal_of _ = expr.Comma []

-- an integer or a string
abbrev pub literal : List Meant → Expr
literal [] = expr.Comma []
literal (m ∷ ms) = literal_of m

-- $v
abbrev pub variable : List Binding → List Meant → Expr
variable bound [] = expr.Comma []
variable bound (m ∷ ms) = expr.Var (name_of bound [] m)

-- the only argument of a cast
abbrev pub only_arg : List Expr → Expr
only_arg [] = expr.Comma []
only_arg (e ∷ es) = e

-- a call of the name of an atomic type is a cast that allows the empty sequence
unfoldable pub called : ExprName → Option AtomType → List Expr → Expr
called name None args = expr.Call name args
called name (Some kind) args = expr.Cast (only_arg args) kind true

-- f(a, b, ..)
abbrev pub call : List Binding → List ℕ → List Meant → Expr
call bound functions [] = expr.Comma []
call bound functions (m ∷ ms) = called (name_of bound functions m) (call_type (type_named (name_of bound functions m))) (args_of ms)
