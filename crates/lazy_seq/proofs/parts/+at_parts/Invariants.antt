use Rattle.std.proofs.Common.{◌≡◌, ◌≤◌, ◌<◌, ◌^◌, length, take, slice_get}
use Rattle.node_walks.specs.Moves.{given}
use Rattle.lazy_seq.specs.Stacks.{stacked, total_weight}
use Rattle.lazy_seq.proofs.parts.+at_parts.Given as goal

abbrev pub decreases-at_parts : goal.decreases-at_parts
decreases-at_parts l = total_weight l.parts.now

abbrev pub invariant-loop-end : goal.invariant-loop-end
invariant-loop-end l = record {
  within : l.end ≤ length l.parts;
  fits : l.left < 2 ^ 63;
  found : slice_get (given (stacked (take l.end l.parts))) l.left
      ≡ slice_get (given (stacked l.parts)) l.place;
}

abbrev pub decreases-loop-end : goal.decreases-loop-end
decreases-loop-end l = l.end
