-- Texts: attribute value templates, and simple content (XSLT 2.0, 5.6 and 5.7.2).
use Rattle.std.specs.Prelude.{ℕ, map, List, [], ◌∷◌, ◌++◌, codes, Option, Some, None, option_map}
use Rattle.xt_syntax.specs.declared.exprs.Expr.{Expr}
use Rattle.xt_sheets.specs.declared.values.AvtPart.{AvtPart}
use Rattle.xt_sheets.specs.declared.values.AvtPart.TheVariants.{Chars, Code}
use Rattle.carried_exprs.specs.Sights.{library_call}
use Rattle.translated_forms.specs.Forms.{text_literal, local_call}

-- an attribute value template, and how its expressions are carried
abbrev pub Template : Type 0
Template = List (AvtPart Expr)

abbrev pub Carry : Type 0
Carry = Expr → Expr

-- `local:simple(e, separator)`
abbrev pub simple_of : Expr → Expr → Expr
simple_of e separator = local_call (codes "simple") (e ∷ separator ∷ [])

-- the text of a template without expressions
unfoldable pub part_before : AvtPart Expr → Option (List ℕ) → Option (List ℕ)
part_before (Chars t) rest = option_map (λ more. t ++ more) rest
part_before (Code e) rest = None

abbrev pub fixed_text : Template → Option (List ℕ)
fixed_text [] = Some []
fixed_text (p ∷ ps) = part_before p (fixed_text ps)

-- each expression gives its simple content with spaces between the items
unfoldable pub part_text : Carry → AvtPart Expr → Expr
part_text carry (Chars t) = text_literal t
part_text carry (Code e) = simple_of (carry e) (text_literal (codes " "))

unfoldable pub joined : List Expr → Expr
joined [] = text_literal []
joined (e ∷ []) = e
joined (e ∷ f ∷ es) = library_call (codes "concat") (e ∷ f ∷ es)

abbrev pub text_or_joined : Carry → Template → Option (List ℕ) → Expr
text_or_joined carry parts (Some t) = text_literal t
text_or_joined carry parts None = joined (map (part_text carry) parts)

unfoldable pub template_text : Carry → Template → Expr
template_text carry parts = text_or_joined carry parts (fixed_text parts)

-- `select`, or else the content
abbrev pub source_of : Carry → Option Expr → Expr → Expr
source_of carry None body = body
source_of carry (Some e) body = carry e

-- the separator of the items: a space with `select`, and nothing in content, unless it is said
abbrev pub default_separator : Option Expr → Expr
default_separator None = text_literal []
default_separator (Some e) = text_literal (codes " ")

abbrev pub separator_text : Carry → Option Expr → Option Template → Expr
separator_text carry select None = default_separator select
separator_text carry select (Some parts) = template_text carry parts

unfoldable pub source_text : Carry → Option Expr → Expr → Option Template → Expr
source_text carry select content separator =
    simple_of (source_of carry select content) (separator_text carry select separator)
