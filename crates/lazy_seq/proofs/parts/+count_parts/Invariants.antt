use Rattle.std.proofs.Common.{◌≡◌, ◌+◌, ◌<◌, ◌^◌, length, drop}
use Rattle.node_walks.specs.Moves.{given}
use Rattle.lazy_seq.specs.Stacks.{stacked, total_weight}
use Rattle.lazy_seq.proofs.parts.+count_parts.Given as goal

abbrev pub decreases-count_parts : goal.decreases-count_parts
decreases-count_parts l = total_weight l.parts.now

abbrev pub invariant-loop-part : goal.invariant-loop-part
invariant-loop-part l = record {
  counted : l.total + length (given (stacked (drop l.part-index l.parts)))
      ≡ length (given (stacked l.parts));
  fits : l.total < 2 ^ 63;
}
