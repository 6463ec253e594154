-- Parameters that calls of templates pass in vain or leave out (XSLT 2.0, 10.1.1).
use Rattle.std.specs.Prelude.{List, [], ◌∷◌, ◌++◌, Bool, true, false, not, slice_get, Option, Some, None, if◌then◌else◌}
use Rattle.std.specs.List.{list_all}
use Rattle.xt_names.specs.declared.names.ExprName.{ExprName}
use Rattle.xt_names.specs.declared.codes.Code.{Code}
use Rattle.xt_names.specs.declared.codes.SheetStaticCode.TheVariants.{XTSE0680, XTSE0690}
use Rattle.name_rules.specs.Scopes.{has_name, with_names}
use Rattle.xt_sheets.specs.declared.instrs.Bound.{Bound}
use Rattle.xt_sheets.specs.declared.instrs.Instr.TheViews.{out-Bound, out-Value}
use Rattle.xt_sheets.specs.declared.instrs.Instr.TheOpen.{Value-F, Select, Body, EmptyText, EmptyList, Required}
use Rattle.sheet_uses.specs.declared.uses.Use.{Use}
use Rattle.sheet_uses.specs.declared.uses.Use.TheVariants as use_of
use Rattle.sheet_rules.specs.WideRules.Doubles.{code_if}
use Rattle.sheet_rules.specs.declared.wide_rules.passing.Parameters.{Parameters}

abbrev pub is_nothing : {E P I V B W : Type 0} → Value-F E P I V B W → Bool
is_nothing (Select e) = false
is_nothing (Body body) = false
is_nothing EmptyText = false
is_nothing EmptyList = false
is_nothing Required = true

module _ {E P : Type 0} where
  -- a parameter without a default
  abbrev pub is_required : Bound E P → Bool
  is_required b = is_nothing (out-Value E P (out-Bound E P b).value)

  -- the names of those that are no tunnel parameters
  abbrev pub ordinary_names : List (Bound E P) → List ExprName
  ordinary_names [] = []
  ordinary_names (b ∷ bs) =
      if (out-Bound E P b).tunnel then ordinary_names bs else (out-Bound E P b).name ∷ ordinary_names bs

  -- .. and have no default
  abbrev pub required_names : List (Bound E P) → List ExprName
  required_names [] = []
  required_names (b ∷ bs) =
      if (out-Bound E P b).tunnel then required_names bs
      else (if is_required b then (out-Bound E P b).name ∷ required_names bs else required_names bs)

  abbrev pub parameters_of : List (Bound E P) → Parameters
  parameters_of params = record {
    ordinary = with_names [] (ordinary_names params);
    required = required_names params;
  }

-- some parameter is passed that the template has not
abbrev pub passes_in_vain : Parameters → List ExprName → Bool
passes_in_vain p passed = not (list_all (has_name p.ordinary) passed)

-- some parameter is required that is not passed
abbrev pub leaves_out : Parameters → List ExprName → Bool
leaves_out p passed = not (list_all (has_name (with_names [] passed)) p.required)

abbrev pub passing_codes : Option Parameters → List ExprName → List Code
passing_codes None passed = []
passing_codes (Some p) passed =
    code_if (passes_in_vain p passed) XTSE0680 ++ code_if (leaves_out p passed) XTSE0690

-- the rules that a use breaks, where the templates have these parameters
unfoldable pub broken_passing : List Parameters → Use → List Code
broken_passing templates (use_of.Template number passed) =
    passing_codes (slice_get templates number) passed
broken_passing templates (use_of.Variable name) = []
broken_passing templates (use_of.Call name arity literal) = []
broken_passing templates (use_of.Apply mode) = []

-- .. and those that many break, in order
abbrev pub broken_passings : List Parameters → List Use → List Code
broken_passings templates [] = []
broken_passings templates (u ∷ us) = broken_passing templates u ++ broken_passings templates us
