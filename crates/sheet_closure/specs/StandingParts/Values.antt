-- The values that attributes, names, sorts and groups of stylesheets hold, within an
-- xsl:for-each-group or outside of one (XSLT 2.0, 5.6, 13.1 and 14.3).
use Rattle.std.specs.Prelude.{List, Bool, true, Option, Some, None}
use Rattle.std.specs.List.{list_all}
use Rattle.xt_syntax.specs.declared.exprs.Expr.{Expr}
use Rattle.xt_syntax.specs.declared.patterns.Pattern.{Pattern}
use Rattle.xt_sheets.specs.declared.values.AvtPart.{AvtPart}
use Rattle.xt_sheets.specs.declared.values.AvtPart.TheVariants.{Chars, Code}
use Rattle.xt_sheets.specs.declared.values.LiteralAttr.{LiteralAttr}
use Rattle.xt_sheets.specs.declared.values.Sort.{Sort}
use Rattle.xt_sheets.specs.declared.values.Grouping.{Grouping}
use Rattle.xt_sheets.specs.declared.values.Grouping.TheVariants.{By, Adjacent, Starting}
use Rattle.sheet_closure.specs.StandingParts.Calls.{expr_stands}
use Rattle.sheet_closure.specs.StandingParts.Patterns.{is_alternative}

unfoldable pub if_expr_stands : Bool → Option Expr → Bool
if_expr_stands grouped None = true
if_expr_stands grouped (Some e) = expr_stands grouped e

unfoldable pub part_stands : Bool → AvtPart Expr → Bool
part_stands grouped (Chars text) = true
part_stands grouped (Code e) = expr_stands grouped e

abbrev pub template_stands : Bool → List (AvtPart Expr) → Bool
template_stands grouped parts = list_all (part_stands grouped) parts

unfoldable pub if_template_stands : Bool → Option (List (AvtPart Expr)) → Bool
if_template_stands grouped None = true
if_template_stands grouped (Some parts) = template_stands grouped parts

abbrev pub attribute_stands : Bool → LiteralAttr Expr → Bool
attribute_stands grouped a = template_stands grouped a.value

abbrev pub sort_stands : Bool → Sort Expr → Bool
sort_stands grouped s = expr_stands grouped s.key

-- what makes the groups stands outside of them
unfoldable pub grouping_stands : Bool → Grouping Expr Pattern → Bool
grouping_stands grouped (By e) = expr_stands grouped e
grouping_stands grouped (Adjacent e) = expr_stands grouped e
grouping_stands grouped (Starting patterns) = list_all is_alternative patterns
