use Rattle.std.proofs.Common.{◌≡◌, ℕ, ◌+◌, ◌<◌, ◌^◌, drop}
use Rattle.std.specs.Prelude.{slice_index}
use Rattle.quiet_eval.specs.QuietMeaning.Paths.{keeps}
use Rattle.node_axes.specs.StepWalks.Sifted.{kept_in_turn}
use Rattle.node_walks.proofs.sieves.count_kept.Given as goal

abbrev pub invariant-loop-test : goal.invariant-loop-test
invariant-loop-test l = record {
  place : l.place ≡ l.test-index;
  counted : l.place + kept_in_turn (keeps (drop l.test-index l.tests)) (drop l.test-index l.seen) l.node
      ≡ kept_in_turn (keeps l.tests) l.seen l.node;
  fits : (k : ℕ) → k < l.place → slice_index l.seen k + 1 < 2 ^ 64;
}
