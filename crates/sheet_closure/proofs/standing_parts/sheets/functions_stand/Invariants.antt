use Rattle.std.proofs.Common.{◌≡◌, drop}
use Rattle.std.specs.List.{list_all}
use Rattle.sheet_closure.specs.StandingParts.Sheets.{function_stands}
use Rattle.sheet_closure.proofs.standing_parts.sheets.functions_stand.Given as goal

abbrev pub invariant-loop-function : goal.invariant-loop-function
invariant-loop-function l =
    list_all function_stands (drop l.function-index l.all)
    ≡ list_all function_stands l.all
