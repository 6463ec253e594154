-- What a closed stylesheet asks of an instruction but for what it holds: that expressions,
-- patterns and names are good, that they may be within an xsl:for-each-group or outside of one,
-- and that `select` and content do not stand beside each other (XSLT 2.0, 5.7).
use Rattle.std.specs.Prelude.{Bool, true, not, ◌&&◌, ◌||◌, Option, is_none}
use Rattle.std.specs.List.{list_all}
use Rattle.xt_syntax.specs.declared.exprs.Expr.{Expr}
use Rattle.xt_syntax.specs.declared.patterns.Pattern.{Pattern}
use Rattle.closed_queries.specs.Closed.{is_good_kind}
use Rattle.closed_queries.specs.Texts.{is_sound_expr_name, is_sound_name}
use Rattle.closed_sheets.specs.Values.{is_sheet_expr, if_sheet_expr, is_good_template}
use Rattle.closed_sheets.specs.Values.{if_good_template, is_good_name, is_good_attribute}
use Rattle.closed_sheets.specs.Values.{is_good_sort, is_good_grouping}
use Rattle.sheet_heads.specs.declared.bindings.BoundHead.{BoundHead}
use Rattle.sheet_heads.specs.declared.bodied.Head.{Head}
use Rattle.sheet_heads.specs.declared.bodied.Head.TheVariants.{ValueOf, Literal, Element, Attribute}
use Rattle.sheet_heads.specs.declared.bodied.Head.TheVariants.{Comment, Pi, Document, Copy, If}
use Rattle.sheet_heads.specs.declared.bodied.Head.TheVariants.{ForEach, ForEachGroup, PerformSort}
use Rattle.sheet_heads.specs.declared.calls.CallHead.{CallHead}
use Rattle.sheet_heads.specs.declared.calls.CallHead.TheVariants as call
use Rattle.sheet_closure.specs.StandingParts.Calls.{expr_stands}
use Rattle.sheet_closure.specs.StandingParts.Values.{if_expr_stands, template_stands, if_template_stands}
use Rattle.sheet_closure.specs.StandingParts.Values.{attribute_stands, sort_stands, grouping_stands}

abbrev pub is_good_head : Head Expr Pattern → Bool
is_good_head (ValueOf select separator) = if_sheet_expr select && if_good_template separator
is_good_head (Literal name attributes) =
    is_sound_name name && list_all is_good_attribute attributes
is_good_head (Element name) = is_good_name name
is_good_head (Attribute name select separator) =
    is_good_name name && (if_sheet_expr select && if_good_template separator)
is_good_head (Comment select) = if_sheet_expr select
is_good_head (Pi name select) = is_good_template name && if_sheet_expr select
is_good_head Document = true
is_good_head Copy = true
is_good_head (If condition) = is_sheet_expr condition
is_good_head (ForEach select sorts) = is_sheet_expr select && list_all is_good_sort sorts
is_good_head (ForEachGroup select grouping sorts) =
    is_sheet_expr select && (is_good_grouping grouping && list_all is_good_sort sorts)
is_good_head (PerformSort select sorts) = if_sheet_expr select && list_all is_good_sort sorts

-- the sort keys of xsl:for-each-group stand within the groups
abbrev pub head_stands : Bool → Head Expr Pattern → Bool
head_stands grouped (ValueOf select separator) =
    if_expr_stands grouped select && if_template_stands grouped separator
head_stands grouped (Literal name attributes) = list_all (attribute_stands grouped) attributes
head_stands grouped (Element name) = template_stands grouped name.text
head_stands grouped (Attribute name select separator) =
    template_stands grouped name.text
    && (if_expr_stands grouped select && if_template_stands grouped separator)
head_stands grouped (Comment select) = if_expr_stands grouped select
head_stands grouped (Pi name select) =
    template_stands grouped name && if_expr_stands grouped select
head_stands grouped Document = true
head_stands grouped Copy = true
head_stands grouped (If condition) = expr_stands grouped condition
head_stands grouped (ForEach select sorts) =
    expr_stands grouped select && list_all (sort_stands grouped) sorts
head_stands grouped (ForEachGroup select grouping sorts) =
    expr_stands grouped select
    && (grouping_stands grouped grouping && list_all (sort_stands true) sorts)
head_stands grouped (PerformSort select sorts) =
    if_expr_stands grouped select && list_all (sort_stands grouped) sorts

abbrev pub is_alone : {A : Type 0} → Option A → Bool → Bool
is_alone select content = is_none select || not content

-- whether there is content is told
abbrev pub has_one_source : Bool → Head Expr Pattern → Bool
has_one_source content (ValueOf select separator) = is_alone select content
has_one_source content (Attribute name select separator) = is_alone select content
has_one_source content (Comment select) = is_alone select content
has_one_source content (Pi name select) = is_alone select content
has_one_source content (PerformSort select sorts) = is_alone select content
has_one_source content h = true

-- a variable or a parameter
abbrev pub is_good_bound_head : BoundHead Expr → Bool
is_good_bound_head h =
    is_sound_expr_name h.name && (is_good_kind h.kind && if_sheet_expr h.select)

-- an instruction that passes parameters
abbrev pub is_good_call_head : CallHead Expr → Bool
is_good_call_head (call.Apply select mode sorts) =
    if_sheet_expr select && list_all is_good_sort sorts
is_good_call_head h = true

abbrev pub call_head_stands : Bool → CallHead Expr → Bool
call_head_stands grouped (call.Apply select mode sorts) =
    if_expr_stands grouped select && list_all (sort_stands grouped) sorts
call_head_stands grouped h = true
