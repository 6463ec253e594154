use Rattle.std.proofs.Common.{◌≡◌, ◌++◌, map, drop}
use Rattle.sheet_heads.specs.Repeats.{bound_name}
use Rattle.sheet_heads.proofs.repeats.bound_names.Given as goal

abbrev pub invariant-loop-bound : goal.invariant-loop-bound
invariant-loop-bound g l = map bound_name l.bounds ≡ l.made ++ map bound_name (drop l.bound-index l.bounds)
