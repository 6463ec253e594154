use Rattle.std.proofs.Common.{◌≡◌, ◌+◌, ◌≤◌}
use Rattle.node_walks.specs.Moves.{settled, steps_before}
use Rattle.lazy_seq.specs.Stacks.{stacked, total_weight}
use Rattle.lazy_seq.proofs.stacks.bring_up.Given as goal

abbrev pub invariant-loop-parts : goal.invariant-loop-parts
invariant-loop-parts g l = record {
  rest : settled (stacked l.parts.items) ≡ settled (stacked l.initial.parts.items);
  steps_are : l.steps + steps_before (stacked l.parts.items) ≡ l.initial.steps
      + steps_before (stacked l.initial.parts.items);
  on : l.initial.steps ≤ l.steps;
}

abbrev pub decreases-loop-parts : goal.decreases-loop-parts
decreases-loop-parts g l = total_weight l.parts.items
