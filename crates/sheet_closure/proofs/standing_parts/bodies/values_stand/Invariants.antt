use Rattle.std.proofs.Common.{◌≡◌, drop, map}
use Rattle.sheet_closure.specs.StandingParts.Bodies.{bound_stands, values_stand}
use Rattle.sheet_closure.proofs.standing_parts.bodies.values_stand.Given as goal

abbrev pub invariant-loop-bound : goal.invariant-loop-bound
invariant-loop-bound l =
    values_stand (map bound_stands (drop l.bound-index l.all)) l.grouped
    ≡ values_stand (map bound_stands l.all) l.grouped
