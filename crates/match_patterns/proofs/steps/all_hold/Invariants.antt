use Rattle.std.proofs.Common.{◌≡◌, drop, map}
use Rattle.std.specs.List.{list_all}
use Rattle.quiet_meaning.specs.Quietly.{quietly_of, holds_at}
use Rattle.quiet_eval.specs.QuietPlaces.Free.{focus}
use Rattle.match_patterns.proofs.steps.all_hold.Given as goal

abbrev pub invariant-loop-test : goal.invariant-loop-test
invariant-loop-test l = list_all (λ q. holds_at q (focus l.node 1 1)) (map quietly_of (drop l.test-index l.tests)) ≡ list_all (λ q. holds_at q (focus l.node 1 1)) (map quietly_of l.tests)
