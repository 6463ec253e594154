use Rattle.std.proofs.Common.{◌≡◌, drop, map, min, max}
use Rattle.closed_sheets.specs.SheetForms.SheetNest.{function_nest_of}
use Rattle.closed_sheets.proofs.sheet_forms.sheets.nest_functions.Given as goal
use Rattle.xt_names.specs.Lists.{greatest}

abbrev pub invariant-loop-function : goal.invariant-loop-function
invariant-loop-function l =
    max l.most (min (greatest (map function_nest_of (drop l.function-index l.all))) 0xFFFF_FFFF) ≡ min (greatest (map function_nest_of l.all)) 0xFFFF_FFFF
