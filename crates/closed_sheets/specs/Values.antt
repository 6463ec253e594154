-- The values that attributes, names, sorts and patterns of stylesheets hold, as a closed one has
-- them.
use Rattle.std.specs.Prelude.{List, Bool, true, ◌&&◌, ◌||◌, Option, Some, None, codes}
use Rattle.std.specs.List.{list_all}
use Rattle.std.specs.Str.{bytes_eq}
use Rattle.xt_names.specs.Allowed.{xml_uri}
use Rattle.xt_names.specs.Classes.{is_xml_text}
use Rattle.xt_names.specs.declared.names.Binding.{Binding}
use Rattle.xt_syntax.specs.declared.exprs.Expr.{Expr}
use Rattle.xt_syntax.specs.declared.patterns.Pattern.{Pattern}
use Rattle.xt_syntax.specs.declared.patterns.PatternStep.{PatternStep}
use Rattle.xt_sheets.specs.declared.values.AvtPart.{AvtPart}
use Rattle.xt_sheets.specs.declared.values.AvtPart.TheVariants.{Chars, Code}
use Rattle.xt_sheets.specs.declared.values.AvtName.{AvtName}
use Rattle.xt_sheets.specs.declared.values.LiteralAttr.{LiteralAttr}
use Rattle.xt_sheets.specs.declared.values.Sort.{Sort}
use Rattle.xt_sheets.specs.declared.values.Grouping.{Grouping}
use Rattle.xt_sheets.specs.declared.values.Grouping.TheVariants.{By, Adjacent, Starting}
use Rattle.closed_queries.specs.Closed.{is_good_expr}
use Rattle.closed_queries.specs.Texts.{is_sound_attribute_name, is_sound_test, is_free_uri}
use Rattle.closed_queries.specs.Texts.{is_free_binding}
use Rattle.closed_sheets.specs.Forms.{has_xpath_forms}

-- an expression of a stylesheet: of XPath, and regular with texts and names that XML allows
unfoldable pub is_sheet_expr : Expr → Bool
is_sheet_expr e = is_good_expr e && has_xpath_forms e

unfoldable pub if_sheet_expr : Option Expr → Bool
if_sheet_expr None = true
if_sheet_expr (Some e) = is_sheet_expr e

-- a part of an attribute value template (XSLT 2.0, 5.6)
unfoldable pub is_good_part : AvtPart Expr → Bool
is_good_part (Chars text) = is_xml_text text
is_good_part (Code e) = is_sheet_expr e

abbrev pub is_good_template : List (AvtPart Expr) → Bool
is_good_template parts = list_all is_good_part parts

unfoldable pub if_good_template : Option (List (AvtPart Expr)) → Bool
if_good_template None = true
if_good_template (Some parts) = is_good_template parts

-- the prefix xml with its own uri
unfoldable pub is_xml_binding : Binding → Bool
is_xml_binding b = bytes_eq b.prefix (codes "xml") && bytes_eq b.uri xml_uri

unfoldable pub is_good_binding : Binding → Bool
is_good_binding b = is_xml_binding b || is_free_binding b

-- a name that is computed (XSLT 2.0, 11.2 and 11.3): its namespaces and its default are those that
-- may be declared
unfoldable pub is_good_name : AvtName Expr → Bool
is_good_name n =
    is_good_template n.text && (list_all is_good_binding n.scope && is_free_uri n.default_uri)

unfoldable pub is_good_attribute : LiteralAttr Expr → Bool
is_good_attribute a = is_sound_attribute_name a.name && is_good_template a.value

unfoldable pub is_good_sort : Sort Expr → Bool
is_good_sort s = is_sheet_expr s.key

unfoldable pub is_good_step : PatternStep → Bool
is_good_step s = is_sound_test s.test && list_all is_sheet_expr s.quiet

-- an alternative of a pattern (XSLT 2.0, 5.5.2)
unfoldable pub is_good_pattern : Pattern → Bool
is_good_pattern p = list_all is_good_step p.steps

unfoldable pub is_good_grouping : Grouping Expr Pattern → Bool
is_good_grouping (By e) = is_sheet_expr e
is_good_grouping (Adjacent e) = is_sheet_expr e
is_good_grouping (Starting patterns) = list_all is_good_pattern patterns
