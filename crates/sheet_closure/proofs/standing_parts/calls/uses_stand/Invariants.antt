use Rattle.std.proofs.Common.{◌≡◌, drop}
use Rattle.std.specs.List.{list_all}
use Rattle.sheet_closure.specs.StandingParts.Calls.{use_stands}
use Rattle.sheet_closure.proofs.standing_parts.calls.uses_stand.Given as goal

abbrev pub invariant-loop-one : goal.invariant-loop-one
invariant-loop-one l =
    list_all (use_stands l.grouped) (drop l.one-index l.uses)
    ≡ list_all (use_stands l.grouped) l.uses
