-- What direct elements mean (XQuery 1.0, 3.7.1).
use Rattle.std.specs.Prelude.{ℕ, List, [], ◌∷◌, false}
use Rattle.xt_names.specs.declared.names.Binding.{Binding}
use Rattle.xt_syntax.specs.declared.exprs.Expr.{Expr}
use Rattle.xt_syntax.specs.declared.exprs.Expr.TheVariants as expr
use Rattle.xt_syntax.specs.declared.exprs.DirectAttr.{DirectAttr}
use Rattle.xt_syntax.specs.declared.exprs.Part.{Part}
use Rattle.xt_syntax.specs.declared.exprs.Part.TheVariants as part
use Rattle.expr_rules.specs.declared.expr_meant.meant.Meant.{Meant}
use Rattle.expr_rules.specs.declared.expr_meant.meant.Meant.TheVariants as meant
use Rattle.expr_rules.specs.ExprMeant.Parts.{expr_in}
use Rattle.expr_rules.specs.Known.{node_name_of}
use Rattle.expr_primaries.specs.ExprElements.Space.{parts_of}

unfoldable pub attr_and : Meant → List DirectAttr → List DirectAttr
attr_and (meant.Attribute a) others = a ∷ others
attr_and _ others = others

abbrev pub attrs_in : List Meant → List DirectAttr
attrs_in [] = []
attrs_in (m ∷ ms) = attr_and m (attrs_in ms)

unfoldable pub content_or : Meant → List Part → List Part
content_or (meant.Content parts) other = parts
content_or _ other = other

abbrev pub content_in : List Meant → List Part
content_in [] = []
content_in (m ∷ ms) = content_or m (content_in ms)

-- <n a="..">..</n>; a name without a prefix has the default uri
abbrev pub element : List Binding → List ℕ → List Meant → Expr
element bound default [] = expr.Comma []
element bound default (m ∷ ms) = expr.Direct (node_name_of bound default m) (attrs_in ms) (content_in ms)

-- .. within the content of another one
abbrev pub child : List Binding → List ℕ → List Meant → Meant
child bound default ms = meant.Part (part.Child (element bound default ms))

-- a=".."; a name without a prefix has no uri
abbrev pub attribute : List Binding → List Meant → Meant
attribute bound [] = meant.Mark
attribute bound (m ∷ ms) = meant.Attribute (record { name = node_name_of bound [] m; parts = parts_of false ms })

-- { a }
abbrev pub enclosed : List Meant → Meant
enclosed ms = meant.Part (part.Enclosed (expr_in ms))
