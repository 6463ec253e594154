use Rattle.std.proofs.Common.{◌≡◌, ◌+◌, ◌*◌, ◌++◌, map, drop, length, max}
use Rattle.xt_forms.specs.Nest.{nest_of}
use Rattle.node_axes.specs.StepWalks.Nodes.{kept_from, kept_by, kept_by_all, nodes_of_each}
use Rattle.quiet_meaning.specs.Quietly.{quietly_of, holds_at}
use Rattle.quiet_meaning.specs.Paths.{nodes_of_form}
use Rattle.quiet_eval.specs.Subjects.{decided}
use Rattle.quiet_eval.proofs.predicates.+holds.Given as goal
use Rattle.xt_names.specs.Lists.{greatest}
use Rattle.quiet_eval.specs.QuietPlaces.Free.{focus}

abbrev pub decreases-reached : goal.decreases-reached
decreases-reached l = 8 * nest_of l.path.now

abbrev pub decreases-path_nodes : goal.decreases-path_nodes
decreases-path_nodes l = 8 * nest_of l.e.now + 1

abbrev pub decreases-alone : goal.decreases-alone
decreases-alone l = 8 * nest_of l.e.now + 2

abbrev pub decreases-simple : goal.decreases-simple
decreases-simple l = 8 * nest_of l.e.now + 3

abbrev pub decreases-holds : goal.decreases-holds
decreases-holds l = 8 * nest_of l.e.now + 4

abbrev pub decreases-opposite : goal.decreases-opposite
decreases-opposite l = 8 * nest_of l.e.now + 5

abbrev pub decreases-decided : goal.decreases-decided
decreases-decided l = 8 * greatest (map nest_of l.all.now) + 5

abbrev pub decreases-kept_by : goal.decreases-kept_by
decreases-kept_by l = 8 * nest_of l.test.now + 5

abbrev pub decreases-kept_in_turn : goal.decreases-kept_in_turn
decreases-kept_in_turn l = 8 * greatest (map nest_of l.tests.now) + 6

abbrev pub decreases-reached_by_step : goal.decreases-reached_by_step
decreases-reached_by_step l = 8 * greatest (map nest_of l.tests.now) + 7

abbrev pub decreases-add_reached : goal.decreases-add_reached
decreases-add_reached l = 8 * nest_of l.step.now + 1

abbrev pub decreases-from_each : goal.decreases-from_each
decreases-from_each l = 8 * nest_of l.step.now + 2

abbrev pub decreases-reached_by_steps : goal.decreases-reached_by_steps
decreases-reached_by_steps l = 8 * max (nest_of l.a.now) (nest_of l.b.now) + 3

abbrev pub invariant-decided-loop-e : goal.invariant-decided-loop-e
invariant-decided-loop-e l = decided l.until (map quietly_of (drop l.e-index l.all)) (focus l.node l.position l.size) ≡ decided l.until (map quietly_of l.all) (focus l.node l.position l.size)

abbrev pub invariant-from_each-loop-node : goal.invariant-from_each-loop-node
invariant-from_each-loop-node l = l.found.items ++ nodes_of_each (nodes_of_form (quietly_of l.step)) (drop l.node-index l.nodes) ≡ nodes_of_each (nodes_of_form (quietly_of l.step)) l.nodes

abbrev pub invariant-kept_in_turn-loop-test : goal.invariant-kept_in_turn-loop-test
invariant-kept_in_turn-loop-test l = kept_by_all (map holds_at (map quietly_of (drop l.test-index l.tests))) l.nodes.items ≡ kept_by_all (map holds_at (map quietly_of l.tests)) l.fn.nodes.items

abbrev pub invariant-kept_by-loop-node : goal.invariant-kept_by-loop-node
invariant-kept_by-loop-node l = record {
  place_is : l.position ≡ l.node-index;
  size_is : l.size ≡ length l.nodes;
  kept_are : l.kept.items ++ kept_from (holds_at (quietly_of l.test)) (length l.nodes) (l.node-index + 1) (drop l.node-index l.nodes) ≡ kept_by (holds_at (quietly_of l.test)) l.nodes;
}
