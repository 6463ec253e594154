-- What productions take of their parts; where a part is not what it should be, which the grammar never gives, something is in its place.
use Rattle.std.specs.Prelude.{List, [], ◌∷◌, map, Bool, true, false}
use Rattle.xt_syntax.specs.declared.exprs.Expr.{Expr}
use Rattle.xt_syntax.specs.declared.exprs.Expr.TheVariants as expr
use Rattle.expr_keys.specs.declared.keys.Key.{Key}
use Rattle.expr_keys.specs.declared.keys.Key.TheVariants.{Comma as comma}
use Rattle.expr_keys.specs.declared.tokens.Token.{Token}
use Rattle.expr_keys.specs.declared.tokens.Token.TheVariants as token
use Rattle.expr_rules.specs.declared.expr_meant.meant.Meant.{Meant}
use Rattle.expr_rules.specs.declared.expr_meant.meant.Meant.TheVariants as meant

-- the expression that the part is or holds, and `()` where there is none
unfoldable pub expr_of : Meant → Expr
expr_of (meant.Expr e) = e
expr_of (meant.Tail operator e) = e
expr_of (meant.Deep e) = e
expr_of (meant.Where e) = e
expr_of _ = expr.Comma []

abbrev pub exprs_of : List Meant → List Expr
exprs_of parts = map expr_of parts

unfoldable pub expr_or : Meant → Expr → Expr
expr_or (meant.Expr e) other = e
expr_or _ other = other

-- the first part that is an expression
abbrev pub expr_in : List Meant → Expr
expr_in [] = expr.Comma []
expr_in (m ∷ ms) = expr_or m (expr_in ms)

unfoldable pub key_in : Token → Key
key_in (token.Key k) = k
key_in _ = comma

unfoldable pub key_of : Meant → Key
key_of (meant.Token t) = key_in t
key_of _ = comma

abbrev pub has_parts : List Meant → Bool
has_parts [] = false
has_parts (m ∷ ms) = true
