use Rattle.std.proofs.Common.{◌≡◌, ◌++◌, drop, map}
use Rattle.sheet_closure.specs.StandingParts.Bodies.{bound_stands, bound_names}
use Rattle.sheet_closure.proofs.standing_parts.bodies.bound_names.Given as goal

abbrev pub invariant-loop-bound : goal.invariant-loop-bound
invariant-loop-bound l =
    l.names ++ bound_names (map bound_stands (drop l.bound-index l.bounds))
    ≡ bound_names (map bound_stands l.bounds)
