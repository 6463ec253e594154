-- Stylesheets that have an equivalent query.
use Rattle.std.specs.Prelude.{ℕ, List, [], ◌∷◌, Bool, true, false, not, ◌&&◌, codes}
use Rattle.std.specs.Prelude.{is_none}
use Rattle.std.specs.List.{list_all}
use Rattle.xt_names.specs.Allowed.{xml_uri}
use Rattle.xt_forms.specs.NamedTexts.{is_one_of}
use Rattle.xt_syntax.specs.declared.exprs.Expr.{Expr}
use Rattle.xt_syntax.specs.declared.patterns.Pattern.{Pattern}
use Rattle.xt_sheets.specs.declared.instrs.Value.{Value}
use Rattle.xt_sheets.specs.declared.instrs.Instr.TheOpen.{Select, Body, EmptyText, EmptyList, Required}
use Rattle.xt_sheets.specs.declared.instrs.Instr.TheViews.{out-Value}
use Rattle.xt_sheets.specs.declared.sheets.Global.{Global}
use Rattle.xt_sheets.specs.declared.sheets.KeyRule.{KeyRule}
use Rattle.xt_sheets.specs.declared.sheets.Sheet.{Sheet}
use Rattle.xt_sheets.specs.declared.sheets.SheetFunction.{SheetFunction}
use Rattle.xt_sheets.specs.declared.sheets.Template.{Template}
use Rattle.carried_exprs.specs.Sights.{Setting, is_own_function}
use Rattle.carried_exprs.specs.Fits.{may_be_carried}
use Rattle.translation.specs.Globals.{ValueForm}
use Rattle.translation.specs.Stands.{Stand, in_rule, in_named, in_function, setting_of}
use Rattle.translation.specs.Stands.{bound_fits, bounds_fit, body_fits}

-- a parameter of the stylesheet has no value of its own
abbrev pub is_required_form : ValueForm → Bool
is_required_form (Select e) = false
is_required_form (Body body) = false
is_required_form EmptyText = false
is_required_form EmptyList = false
is_required_form Required = true

abbrev pub is_required : Value Expr Pattern → Bool
is_required value = is_required_form (out-Value Expr Pattern value)

abbrev pub given_if_param : Bool → Value Expr Pattern → Bool
given_if_param true value = is_required value
given_if_param false value = true

abbrev pub global_fits : Global → Bool
global_fits g = given_if_param g.param g.bound.value && bound_fits g.bound in_named

-- a template that rules alone reach has a match and no name
abbrev pub stand_of : Bool → Stand
stand_of true = in_rule
stand_of false = in_named

abbrev pub template_stand : Template → Stand
template_stand t = stand_of (t.has_match && is_none t.name)

abbrev pub template_fits : Template → Bool
template_fits t = bounds_fit t.params (template_stand t) && body_fits t.body (template_stand t)

-- no function is in a namespace of the languages or of the translation
abbrev pub reserved_uris : List (List ℕ)
reserved_uris =
    xml_uri ∷ codes "http://www.w3.org/2001/XMLSchema"
    ∷ codes "http://www.w3.org/2001/XMLSchema-instance"
    ∷ codes "http://www.w3.org/2005/xpath-functions"
    ∷ codes "http://www.w3.org/1999/XSL/Transform" ∷ []

abbrev pub function_fits : SheetFunction → Bool
function_fits f =
    is_own_function f.name
    && (not (is_one_of f.name.uri reserved_uris)
    && (bounds_fit f.params in_function && body_fits f.body in_function))

-- `use` calls neither a function of the stylesheet nor key()
abbrev pub use_stand : Setting
use_stand = record (setting_of in_named) { has_calls = false; has_keys = false }

abbrev pub key_fits : KeyRule → Bool
key_fits k = may_be_carried use_stand k.key

-- A closed stylesheet has an equivalent query where
-- - each of its parameters is required;
-- - next-match and apply-imports are in templates that rules alone reach, outside of loops;
-- - #current is in such templates, in loops too;
-- - call-template is where there is a focus: in a function in loops alone;
-- - no variable and no parameter is in the namespace of the names that the translation makes up, and no
--   function is in that of its functions or in one of the languages.
-- What else is tested holds of every closed stylesheet.
unfoldable pub translatable : Sheet → Bool
translatable s =
    list_all global_fits s.globals
    && (list_all template_fits s.templates
    && (list_all function_fits s.functions && list_all key_fits s.keys))
