use Rattle.std.proofs.Common.{◌≡◌, ◌++◌, drop}
use Rattle.global_needs.specs.Rows.{leads}
use Rattle.global_needs.proofs.rows.row_of.Given as goal

abbrev pub invariant-loop-one : goal.invariant-loop-one
invariant-loop-one l =
    l.row ++ leads l.shape l.in_rule (drop l.one-index l.uses) ≡ leads l.shape l.in_rule l.uses
