use Rattle.std.proofs.Common.{◌≡◌, ◌++◌, drop}
use Rattle.expr_control.specs.Lists.{binds_of}
use Rattle.expr_control.proofs.lists.binds_of.Given as goal

abbrev pub invariant-loop-part : goal.invariant-loop-part
invariant-loop-part l = l.binds.items ++ binds_of (drop l.part-index l.parts) ≡ binds_of l.parts
