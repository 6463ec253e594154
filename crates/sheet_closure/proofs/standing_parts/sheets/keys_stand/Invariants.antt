use Rattle.std.proofs.Common.{◌≡◌, drop}
use Rattle.std.specs.List.{list_all}
use Rattle.sheet_closure.specs.StandingParts.Sheets.{key_stands}
use Rattle.sheet_closure.proofs.standing_parts.sheets.keys_stand.Given as goal

abbrev pub invariant-loop-key : goal.invariant-loop-key
invariant-loop-key l =
    list_all key_stands (drop l.key-index l.all)
    ≡ list_all key_stands l.all
