use Rattle.std.proofs.Common.{◌≡◌, ℕ, ◌+◌, ◌<◌, ◌≤◌, map, refl, ap, sym, ◌∙◌, length, arith, Some}
use Rattle.std.specs.Option.{option_copied}
use Rattle.quiet_meaning.specs.Quietly.{quietly_of, holds_at}
use Rattle.quiet_meaning.specs.Paths.{nodes_of_form}
use Rattle.node_axes.specs.StepWalks.Nodes.{nodes_of_each}
use Rattle.quiet_meaning.proofs.HoldLemmas.{slashed_is, stepped_is}
use Rattle.quiet_eval.specs.Subjects.{path_part, negated_part}
use Rattle.quiet_eval.proofs.SubjectLemmas.{negated_holds, path_is_path}
use Rattle.quiet_eval.proofs.NestLemmas.{in_greatest, path_nest, negated_nest, or_nest, and_nest}
use Rattle.quiet_eval.proofs.CycleLemmas.{each_allowed, or_allowed, and_allowed, or_holds, and_holds, each_step, each_end, kept_begins, kept_step, kept_end, turn_step, turn_end, step_reached, slash_reached, no_path, if_ok}
use Rattle.quiet_eval.proofs.predicates.+holds.Goals as goal
use Rattle.quiet_eval.specs.QuietPlaces.Free.{focus}

pub decided-holds-requires : goal.decided-holds-requires
decided-holds-requires t c =
    let l : c.loop-e.e-index < length c.args.all.now = omega arith in
    let g = in_greatest c.args.all.now c.loop-e.e-index c.e-item.result _ l c.e-item.is in
    (omega (arith, c.decreases, g), each_allowed c.args.all.now c.loop-e.e-index c.e-item.result _ l c.e-item.is c.requires)

pub from_each-loop-node-preserved : goal.from_each-loop-node-preserved
from_each-loop-node-preserved t c =
    let l : c.loop-node.node-index < length c.args.nodes.now = omega arith in
    each_step (nodes_of_form (quietly_of c.args.step.now)) c.args.nodes.now c.loop-node.node-index c.node-item.result _ c.loop-node.found.items _ _ l c.node-item.is c.loop-node.invariant c.in_ok-add_reached.ensures

pub from_each-returns : goal.from_each-returns
from_each-returns t c =
    let l : length c.args.nodes.now ≤ c.loop-node.node-index = omega arith in
    each_end (nodes_of_form (quietly_of c.args.step.now)) c.args.nodes.now c.loop-node.node-index _ _ l c.loop-node.invariant

pub holds-decided-requires : goal.holds-decided-requires
holds-decided-requires t c =
    let s = c.as_slice.ensures ∙ c.get.ensures in
    let g = or_nest c.args.e.now c.in-Or.all c.as_slice.result.now c.in-Or.is s in
    (omega (arith, c.decreases, g), or_allowed c.args.e.now c.in-Or.all c.as_slice.result.now c.in-Or.is s c.requires)

pub holds-decided-requires-in-And : goal.holds-decided-requires-in-And
holds-decided-requires-in-And t c =
    let s = c.as_slice-in-And.ensures ∙ c.get-in-And.ensures in
    let g = and_nest c.args.e.now c.in-And.all c.as_slice-in-And.result.now c.in-And.is s in
    (omega (arith, c.decreases, g), and_allowed c.args.e.now c.in-And.all c.as_slice-in-And.result.now c.in-And.is s c.requires)

pub holds-returns-in-Or : goal.holds-returns-in-Or
holds-returns-in-Or t c =
    let s = c.as_slice.ensures ∙ c.get.ensures in
    rw (← or_holds c.args.e.now c.in-Or.all c.as_slice.result.now (focus c.args.node.now c.args.position c.args.size) c.in-Or.is s c.requires) c.decided.ensures

pub holds-returns-in-And : goal.holds-returns-in-And
holds-returns-in-And t c =
    let s = c.as_slice-in-And.ensures ∙ c.get-in-And.ensures in
    rw (← and_holds c.args.e.now c.in-And.all c.as_slice-in-And.result.now (focus c.args.node.now c.args.position c.args.size) c.in-And.is s c.requires) c.decided-in-And.ensures

pub kept_in_turn-kept_by-requires : goal.kept_in_turn-kept_by-requires
kept_in_turn-kept_by-requires t c =
    let l : c.loop-test.test-index < length c.args.tests.now = omega arith in
    let g = in_greatest c.args.tests.now c.loop-test.test-index c.test-item.result _ l c.test-item.is in
    (omega (arith, c.decreases, g), each_allowed c.args.tests.now c.loop-test.test-index c.test-item.result _ l c.test-item.is c.requires)

pub kept_in_turn-loop-test-preserved : goal.kept_in_turn-loop-test-preserved
kept_in_turn-loop-test-preserved t c =
    let l : c.loop-test.test-index < length c.args.tests.now = omega arith in
    turn_step c.args.tests.now c.loop-test.test-index c.test-item.result _ c.loop-test.nodes.items c.as_slice.result.now _ _ l c.test-item.is c.loop-test.invariant c.as_slice.ensures.value c.in_ok-nodes.ensures

pub kept_in_turn-returns : goal.kept_in_turn-returns
kept_in_turn-returns t c =
    let l : length c.args.tests.now ≤ c.loop-test.test-index = omega arith in
    turn_end c.args.tests.now c.loop-test.test-index _ _ l c.loop-test.invariant

pub path_nodes-reached-requires : goal.path_nodes-reached-requires
path_nodes-reached-requires t c =
    let s : path_part c.args.e.now ≡ Some c.in-Some.path.now = sym c.path_in.ensures ∙ ap option_copied c.in-Some.is in
    let g = path_nest c.args.e.now c.in-Some.path.now s in
    (omega (arith, c.decreases, g), path_is_path c.args.e.now c.in-Some.path.now (focus c.args.node.now 1 1) s c.requires.junction c.requires.not c.requires.form)

pub reached-returns-in_default : goal.reached-returns-in_default
reached-returns-in_default t c = no_path c.args.path.now c.in_default.not-Slash c.in_default.not-Step c.requires

pub simple-opposite-requires : goal.simple-opposite-requires
simple-opposite-requires t c =
    let s : negated_part c.args.e.now ≡ Some c.in-Some.inner.now = sym c.negated.ensures ∙ ap option_copied c.in-Some.is in
    let g = negated_nest c.args.e.now c.in-Some.inner.now s in
    (omega (arith, c.decreases, g), (negated_holds c.args.e.now c.in-Some.inner.now (focus c.args.node.now c.args.position c.args.size) s c.requires.form).0)

pub simple-returns-in-Some : goal.simple-returns-in-Some
simple-returns-in-Some t c =
    let s : negated_part c.args.e.now ≡ Some c.in-Some.inner.now = sym c.negated.ensures ∙ ap option_copied c.in-Some.is in
    rw (← (negated_holds c.args.e.now c.in-Some.inner.now (focus c.args.node.now c.args.position c.args.size) s c.requires.form).1) c.opposite.ensures

pub kept_by-loop-node-init : goal.kept_by-loop-node-init
kept_by-loop-node-init t c = record { place_is = refl; size_is = refl; kept_are = kept_begins (holds_at (quietly_of c.args.test.now)) c.args.nodes.now c.new-kept.result.items c.new-kept.ensures.items }

pub kept_by-loop-node-preserved : goal.kept_by-loop-node-preserved
kept_by-loop-node-preserved t c =
    let l : c.loop-node.node-index < length c.args.nodes.now = omega arith in
    let h = holds_at (quietly_of c.args.test.now) in
    let p : c.loop-node.position + 1 ≡ c.loop-node.node-index + 1 = ap (λ (n : ℕ). n + 1) c.loop-node.invariant.place_is in
    let b = c.in_ok-keeps.ensures ∙ ap (λ (n : ℕ). h (focus c.node-item.result n (length c.args.nodes.now))) p in
    record {
      place_is = p;
      size_is = refl;
      kept_are = kept_step h (length c.args.nodes.now) c.args.nodes.now c.loop-node.node-index c.node-item.result _ c.loop-node.kept.items c.add_if.new.kept.items _ c.in_ok-keeps.keeps l c.node-item.is c.loop-node.invariant.kept_are b c.in_ok-add_if.ensures;
    }

pub kept_by-returns : goal.kept_by-returns
kept_by-returns t c =
    let l : length c.args.nodes.now ≤ c.loop-node.node-index = omega arith in
    kept_end (holds_at (quietly_of c.args.test.now)) (length c.args.nodes.now) _ c.args.nodes.now c.loop-node.node-index _ _ l c.loop-node.invariant.kept_are

pub reached_by_step-kept_in_turn-requires : goal.reached_by_step-kept_in_turn-requires
reached_by_step-kept_in_turn-requires t c = (omega (arith, c.decreases), (stepped_is c.args.axis c.args.test.now (map quietly_of c.args.tests.now) c.requires).allowed)

pub reached_by_step-returns : goal.reached_by_step-returns
reached_by_step-returns t c =
    if_ok _ _ c.in_order.result
    (λ made o. step_reached c.args.axis c.args.test.now (map quietly_of c.args.tests.now) c.args.node.now c.in_ok-found.found.items c.in_ok-kept.kept.items made.items c.requires c.in_ok-found.ensures c.in_ok-kept.ensures o)
    c.in_order.ensures

pub reached_by_steps-reached-requires : goal.reached_by_steps-reached-requires
reached_by_steps-reached-requires t c = (omega (arith, c.decreases), (slashed_is (quietly_of c.args.a.now) (quietly_of c.args.b.now) c.requires).front)

pub reached_by_steps-from_each-requires : goal.reached_by_steps-from_each-requires
reached_by_steps-from_each-requires t c = (omega (arith, c.decreases), (slashed_is (quietly_of c.args.a.now) (quietly_of c.args.b.now) c.requires).last_step)

pub reached_by_steps-returns : goal.reached_by_steps-returns
reached_by_steps-returns t c =
    if_ok _ _ c.in_order.result
    (λ made o. slash_reached c.args.a.now c.args.b.now c.args.node.now c.in_ok-from.from.items c.in_ok-found.found.items made.items c.requires c.in_ok-from.ensures (c.in_ok-found.ensures ∙ ap (nodes_of_each (nodes_of_form (quietly_of c.args.b.now))) c.as_slice.ensures.value) o)
    c.in_order.ensures
