use Rattle.std.proofs.Common.{◌≡◌, ◌++◌, drop, map}
use Rattle.sheet_uses.specs.Bodies.{bound_uses, ordinary}
use Rattle.sheet_uses.proofs.bodies.ordinary_names.Given as goal

abbrev pub invariant-loop-param : goal.invariant-loop-param
invariant-loop-param l =
    l.names ++ ordinary (map bound_uses (drop l.param-index l.params))
    ≡ ordinary (map bound_uses l.params)
