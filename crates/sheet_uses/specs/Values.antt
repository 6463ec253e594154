-- What the values of attributes, sort keys and groupings use (XSLT 2.0, 5.6, 13.1 and 14.3).
use Rattle.std.specs.Prelude.{List, map, Option, Some, None}
use Rattle.xt_syntax.specs.declared.exprs.Expr.{Expr}
use Rattle.xt_syntax.specs.declared.patterns.Pattern.{Pattern}
use Rattle.xt_sheets.specs.declared.values.AvtPart.{AvtPart}
use Rattle.xt_sheets.specs.declared.values.AvtPart.TheVariants.{Chars, Code}
use Rattle.xt_sheets.specs.declared.values.LiteralAttr.{LiteralAttr}
use Rattle.xt_sheets.specs.declared.values.Sort.{Sort}
use Rattle.xt_sheets.specs.declared.values.Grouping.{Grouping}
use Rattle.xt_sheets.specs.declared.values.Grouping.TheVariants.{By, Adjacent, Starting}
use Rattle.sheet_uses.specs.Exprs.{Finds, nothing, all_in, expr_uses}

abbrev pub if_expr : Option Expr → Finds
if_expr None = nothing
if_expr (Some e) = (expr_uses e).finds

unfoldable pub part_uses : AvtPart Expr → Finds
part_uses (Chars text) = nothing
part_uses (Code e) = (expr_uses e).finds

abbrev pub template_uses : List (AvtPart Expr) → Finds
template_uses parts = all_in (map part_uses parts)

abbrev pub if_template : Option (List (AvtPart Expr)) → Finds
if_template None = nothing
if_template (Some parts) = template_uses parts

abbrev pub attribute_uses : LiteralAttr Expr → Finds
attribute_uses a = template_uses a.value

abbrev pub sort_uses : Sort Expr → Finds
sort_uses s = (expr_uses s.key).finds

-- the predicates of patterns name no variable and call no function of a stylesheet
unfoldable pub grouping_uses : Grouping Expr Pattern → Finds
grouping_uses (By e) = (expr_uses e).finds
grouping_uses (Adjacent e) = (expr_uses e).finds
grouping_uses (Starting patterns) = nothing
