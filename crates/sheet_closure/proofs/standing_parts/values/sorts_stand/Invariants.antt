use Rattle.std.proofs.Common.{◌≡◌, drop}
use Rattle.std.specs.List.{list_all}
use Rattle.sheet_closure.specs.StandingParts.Values.{sort_stands}
use Rattle.sheet_closure.proofs.standing_parts.values.sorts_stand.Given as goal

abbrev pub invariant-loop-sort : goal.invariant-loop-sort
invariant-loop-sort l =
    list_all (sort_stands l.grouped) (drop l.sort-index l.all)
    ≡ list_all (sort_stands l.grouped) l.all
