use Rattle.std.proofs.Common.{◌≡◌, drop}
use Rattle.expr_primaries.specs.ExprPaths.Paths.{path_from}
use Rattle.expr_primaries.proofs.expr_paths.paths.path_from.Given as goal

abbrev pub invariant-loop-part : goal.invariant-loop-part
invariant-loop-part l = path_from l.path (drop l.part-index l.parts) ≡ path_from l.fn.a l.parts
