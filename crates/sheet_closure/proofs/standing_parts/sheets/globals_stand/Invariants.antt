use Rattle.std.proofs.Common.{◌≡◌, drop}
use Rattle.std.specs.List.{list_all}
use Rattle.sheet_closure.specs.StandingParts.Sheets.{global_stands}
use Rattle.sheet_closure.proofs.standing_parts.sheets.globals_stand.Given as goal

abbrev pub invariant-loop-global : goal.invariant-loop-global
invariant-loop-global l =
    list_all global_stands (drop l.global-index l.all)
    ≡ list_all global_stands l.all
