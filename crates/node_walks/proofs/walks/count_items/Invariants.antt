use Rattle.std.proofs.Common.{◌≡◌, ◌+◌, ◌<◌, ◌^◌, length}
use Rattle.node_walks.specs.Moves.{given}
use Rattle.node_walks.proofs.walks.count_items.Given as goal

abbrev pub invariant-loop-steps : goal.invariant-loop-steps
invariant-loop-steps g l = record {
  counted : l.count + length (given l.walk) ≡ length (given l.fn.walk);
  fits : l.count < 2 ^ 63;
}

abbrev pub decreases-loop-steps : goal.decreases-loop-steps
decreases-loop-steps g l = length (given l.walk)
