use Rattle.std.proofs.Common.{◌≡◌, ◌+◌, ◌≤◌, length}
use Rattle.quiet_eval.specs.QuietMeaning.Paths.{keeps}
use Rattle.node_walks.specs.Moves.{settled, steps_before}
use Rattle.node_walks.specs.Quiet.{IsSieve}
use Rattle.node_walks.specs.Sift.{sifted_moves}
use Rattle.node_walks.proofs.quiet_walks.seek.Given as goal

abbrev pub invariant-loop-walk : goal.invariant-loop-walk
invariant-loop-walk g l = record {
  rest : settled (sifted_moves (keeps l.sieve.tests) l.sieve.seen.items l.walk)
      ≡ settled (sifted_moves (keeps l.initial.sieve.tests) l.initial.sieve.seen.items l.initial.walk);
  counted : l.steps + steps_before (sifted_moves (keeps l.sieve.tests) l.sieve.seen.items l.walk)
      ≡ l.initial.steps + steps_before (sifted_moves (keeps l.initial.sieve.tests) l.initial.sieve.seen.items l.initial.walk);
  on : l.initial.steps ≤ l.steps;
  tests : l.sieve.tests ≡ l.initial.sieve.tests;
  sieve : IsSieve l.sieve.tests l.sieve.seen.items;
}

abbrev pub decreases-loop-walk : goal.decreases-loop-walk
decreases-loop-walk g l = length l.walk
