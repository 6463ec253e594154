-- Stylesheets whose expressions are regular ones of XPath, whose types are regular, and whose texts
-- and names XML allows.
use Rattle.std.specs.Prelude.{List, [], ◌∷◌, map, Bool, true, ◌&&◌, Option, Some, None}
use Rattle.std.specs.List.{list_all}
use Rattle.xt_names.specs.declared.names.ExprName.{ExprName}
use Rattle.xt_forms.specs.Regular.{every}
use Rattle.xt_sheets.specs.declared.sheets.Template.{Template}
use Rattle.xt_sheets.specs.declared.sheets.SheetFunction.{SheetFunction}
use Rattle.xt_sheets.specs.declared.sheets.KeyRule.{KeyRule}
use Rattle.xt_sheets.specs.declared.sheets.Sheet.{Sheet}
use Rattle.closed_queries.specs.Closed.{is_good_kind}
use Rattle.closed_queries.specs.Texts.{is_sound_expr_name, is_sound_name_test}
use Rattle.closed_sheets.specs.Values.{is_sheet_expr, is_good_pattern}
use Rattle.closed_sheets.specs.Instrs.{is_good_bound, is_good_body}

unfoldable pub if_sound_name : Option ExprName → Bool
if_sound_name None = true
if_sound_name (Some name) = is_sound_expr_name name

unfoldable pub is_good_sheet_template : Template → Bool
is_good_sheet_template t =
    if_sound_name t.name
    && (every (map is_good_bound t.params) && (is_good_kind t.kind && is_good_body t.body))

unfoldable pub is_good_function : SheetFunction → Bool
is_good_function f =
    is_sound_expr_name f.name
    && (every (map is_good_bound f.params) && (is_good_kind f.kind && is_good_body f.body))

unfoldable pub is_good_key : KeyRule → Bool
is_good_key k =
    is_sound_expr_name k.name && (is_good_pattern k.pattern && is_sheet_expr k.key)

-- the default mode comes first, and has no name
unfoldable pub are_sound_modes : List ExprName → Bool
are_sound_modes [] = true
are_sound_modes (default ∷ modes) = list_all is_sound_expr_name modes

-- What closedness asks of each part of the stylesheet for itself (XSLT 2.0, 3.6 and 5): its
-- expressions are regular ones of XPath, its types are regular, and XML allows its texts and names.
-- It says nothing of which variables, functions, templates, keys and modes are declared.
unfoldable pub has_good_parts : Sheet → Bool
has_good_parts s =
    every (map (λ g. is_good_bound g.bound) s.globals)
    && (list_all is_good_sheet_template s.templates
    && (list_all (λ r. is_good_pattern r.pattern) s.rules
    && (list_all is_good_function s.functions
    && (list_all is_good_key s.keys
    && (are_sound_modes s.modes && list_all (λ r. is_sound_name_test r.test) s.space)))))
