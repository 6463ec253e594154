-- What computed constructors mean (XQuery 1.0, 3.7.3).
use Rattle.std.specs.Prelude.{ℕ, List, [], ◌∷◌}
use Rattle.xt_names.specs.declared.names.Binding.{Binding}
use Rattle.xt_names.specs.declared.names.Name.{Name}
use Rattle.xt_syntax.specs.declared.exprs.Expr.{Expr}
use Rattle.xt_syntax.specs.declared.exprs.Expr.TheVariants as expr
use Rattle.xt_syntax.specs.declared.exprs.NameSource.{NameSource}
use Rattle.xt_syntax.specs.declared.exprs.NameSource.TheVariants as source
use Rattle.expr_keys.specs.declared.keys.Key.{Key}
use Rattle.expr_keys.specs.declared.keys.Key.TheVariants as key
use Rattle.expr_rules.specs.declared.expr_meant.meant.Meant.{Meant}
use Rattle.expr_rules.specs.ExprMeant.Parts.{expr_of, expr_in, key_of}
use Rattle.expr_rules.specs.Known.{node_name_of}

unfoldable pub named_by : Key → NameSource → Expr → Expr
named_by key.ElementWord name content = expr.ElemC name content
named_by key.AttributeWord name content = expr.AttrC name content
named_by _ name content = expr.PiC name content

-- after the word and what computes the name stands the content
abbrev pub named_with : Key → List Meant → Expr
named_with k [] = expr.Comma []
named_with k (m ∷ ms) = named_by k (source.Computed (expr_of m)) (expr_in ms)

-- element { a } { b }
abbrev pub computed : List Meant → Expr
computed [] = expr.Comma []
computed (m ∷ ms) = named_with (key_of m) ms

-- only the name of an element has the default uri
unfoldable pub fixed_name : List Binding → List ℕ → Key → Meant → Name
fixed_name bound default key.ElementWord m = node_name_of bound default m
fixed_name bound default _ m = node_name_of bound [] m

abbrev pub fixed_with : List Binding → List ℕ → Key → List Meant → Expr
fixed_with bound default k [] = expr.Comma []
fixed_with bound default k (m ∷ ms) = named_by k (source.Fixed (fixed_name bound default k m)) (expr_in ms)

-- element n { a }
abbrev pub constructed : List Binding → List ℕ → List Meant → Expr
constructed bound default [] = expr.Comma []
constructed bound default (m ∷ ms) = fixed_with bound default (key_of m) ms

-- processing-instruction n { a }
abbrev pub pi_constructed : List Binding → List Meant → Expr
pi_constructed bound [] = expr.Comma []
pi_constructed bound (m ∷ ms) = expr.PiC (source.Fixed (node_name_of bound [] m)) (expr_in ms)

unfoldable pub enclosing_by : Key → Expr → Expr
enclosing_by key.DocumentWord a = expr.DocC a
enclosing_by key.TextWord a = expr.TextC a
enclosing_by _ a = expr.CommentC a

-- document { a }
abbrev pub enclosing : List Meant → Expr
enclosing [] = expr.Comma []
enclosing (m ∷ ms) = enclosing_by (key_of m) (expr_in ms)
