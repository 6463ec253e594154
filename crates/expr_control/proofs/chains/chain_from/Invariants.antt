use Rattle.std.proofs.Common.{◌≡◌, drop}
use Rattle.expr_control.specs.Operators.{chain_from}
use Rattle.expr_control.proofs.chains.chain_from.Given as goal

abbrev pub invariant-loop-part : goal.invariant-loop-part
invariant-loop-part l = chain_from l.level l.chain (drop l.part-index l.parts) ≡ chain_from l.level l.fn.a l.parts
