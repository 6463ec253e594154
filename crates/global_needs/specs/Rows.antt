-- Where the places of the graph lead (XSLT 2.0, 9.5).
use Rattle.std.specs.Prelude.{ℕ, List, [], ◌∷◌, ◌++◌, ◌+◌, length, position, nat_lt, get_or, set}
use Rattle.std.specs.Prelude.{Bool, false, Option, Some, None, if◌then◌else◌}
use Rattle.name_rules.specs.Scopes.{same_signature, signature}
use Rattle.xt_syntax.specs.declared.exprs.Expr.{Expr}
use Rattle.xt_syntax.specs.declared.patterns.Pattern.{Pattern}
use Rattle.xt_sheets.specs.declared.values.ModeUse.{ModeUse}
use Rattle.xt_sheets.specs.declared.values.ModeUse.TheVariants.{Number, Current}
use Rattle.xt_sheets.specs.declared.instrs.Instr.{Instr}
use Rattle.xt_sheets.specs.declared.instrs.Bound.{Bound}
use Rattle.xt_sheets.specs.declared.sheets.Global.{Global}
use Rattle.xt_sheets.specs.declared.sheets.Template.{Template}
use Rattle.xt_sheets.specs.declared.sheets.SheetFunction.{SheetFunction}
use Rattle.xt_sheets.specs.declared.sheets.Rule.{Rule}
use Rattle.sheet_uses.specs.declared.uses.Use.{Use}
use Rattle.sheet_uses.specs.declared.uses.Use.TheVariants as use_of
use Rattle.sheet_uses.specs.Bodies.{bound_uses, callee_uses}
use Rattle.global_needs.specs.declared.shapes.Shape.{Shape}

-- the place of a kind, if it is one of so many
abbrev pub bounded : ℕ → ℕ → ℕ → List ℕ
bounded count at place = if nat_lt place count then (at + place) ∷ [] else []

abbrev pub found_at : ℕ → ℕ → Option ℕ → List ℕ
found_at count at None = []
found_at count at (Some place) = bounded count at place

-- `#current` is the default mode, but in a rule, where its mode is reached already
unfoldable pub mode_leads : Shape → Bool → ModeUse → List ℕ
mode_leads s in_rule (Number mode) = bounded s.modes s.modes_at mode
mode_leads s in_rule Current = if in_rule then [] else bounded s.modes s.modes_at 0

-- where a use leads: a variable to a global as it is named, which leads nowhere
unfoldable pub use_leads : Shape → Bool → Use → List ℕ
use_leads s in_rule (use_of.Variable name) =
    found_at s.globals s.globals_at (position (same_signature (signature name 0)) s.variables)
use_leads s in_rule (use_of.Call name arity literal) =
    found_at s.functions s.functions_at (position (same_signature (signature name arity)) s.called)
use_leads s in_rule (use_of.Template number passed) =
    bounded s.templates (if in_rule then s.rules_at else s.templates_at) number
use_leads s in_rule (use_of.Apply mode) = mode_leads s in_rule mode

abbrev pub leads : Shape → Bool → List Use → List ℕ
leads s in_rule [] = []
leads s in_rule (u ∷ us) = use_leads s in_rule u ++ leads s in_rule us

abbrev pub bound_leads : Shape → Bound Expr Pattern → List ℕ
bound_leads s b = leads s false ((bound_uses b).source [] [])

abbrev pub callee_leads : Shape → Bool → List (Bound Expr Pattern) → List (Instr Expr Pattern)
    → List ℕ
callee_leads s in_rule params body = leads s in_rule (callee_uses params body [] [])

abbrev pub global_row : Shape → Global → List ℕ
global_row s g = bound_leads s g.bound

abbrev pub function_row : Shape → SheetFunction → List ℕ
function_row s f = callee_leads s false f.params f.body

-- a template that a rule has, or that one calls, is in a rule
abbrev pub template_row : Shape → Bool → Template → List ℕ
template_row s in_rule t = callee_leads s in_rule t.params t.body

abbrev pub no_row : {A : Type 0} → A → List ℕ
no_row a = []

-- with one more at the end of the row
abbrev pub with_place : ℕ → ℕ → List (List ℕ) → List (List ℕ)
with_place at place rows =
    if nat_lt at (length rows) then set rows at (get_or rows at [] ++ place ∷ []) else rows

abbrev pub with_mode : Shape → ℕ → List (List ℕ) → ℕ → List (List ℕ)
with_mode s place rows mode =
    if nat_lt mode s.modes then with_place (s.modes_at + mode) place rows else rows

abbrev pub with_modes : Shape → ℕ → List (List ℕ) → List ℕ → List (List ℕ)
with_modes s place rows [] = rows
with_modes s place rows (m ∷ ms) = with_modes s place (with_mode s place rows m) ms

-- each mode leads to the templates of the rules that stand in it
abbrev pub with_rules : Shape → List (List ℕ) → List Rule → List (List ℕ)
with_rules s rows [] = rows
with_rules s rows (r ∷ rs) =
    with_rules s (with_modes s (s.rules_at + r.template) rows r.modes) rs
