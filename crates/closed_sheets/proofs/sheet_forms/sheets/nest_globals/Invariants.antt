use Rattle.std.proofs.Common.{◌≡◌, drop, map, min, max}
use Rattle.closed_sheets.specs.SheetForms.SheetNest.{global_nest_of}
use Rattle.closed_sheets.proofs.sheet_forms.sheets.nest_globals.Given as goal
use Rattle.xt_names.specs.Lists.{greatest}

abbrev pub invariant-loop-global : goal.invariant-loop-global
invariant-loop-global l =
    max l.most (min (greatest (map global_nest_of (drop l.global-index l.all))) 0xFFFF_FFFF) ≡ min (greatest (map global_nest_of l.all)) 0xFFFF_FFFF
