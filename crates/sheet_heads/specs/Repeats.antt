-- No two of one name (XSLT 2.0, 9.2 and 10.1.1).
use Rattle.std.specs.Prelude.{List, map, not}
use Rattle.xt_names.specs.declared.names.ExprName.{ExprName}
use Rattle.xt_names.specs.declared.codes.Code.{Code}
use Rattle.xt_names.specs.declared.codes.SheetStaticCode.{SheetStaticCode}
use Rattle.xt_sheets.specs.declared.instrs.Bound.{Bound}
use Rattle.xt_sheets.specs.declared.instrs.Instr.TheViews.{out-Bound}
use Rattle.name_rules.specs.Scopes.{names_differ}
use Rattle.sheet_values.specs.Rules.{broken}

module _ {E P : Type 0} where
  unfoldable pub bound_name : Bound E P → ExprName
  bound_name b = (out-Bound E P b).name

  abbrev pub repeats_broken : SheetStaticCode → List (Bound E P) → List Code
  repeats_broken code bounds = broken code (not (names_differ (map bound_name bounds)))
