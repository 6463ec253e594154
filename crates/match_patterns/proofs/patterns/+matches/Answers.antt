use Rattle.std.proofs.Common.{◌≡◌, ◌-◌, false, true, reverse, take, ap, sym, subst, ◌∙◌, arith, rules}
use Rattle.xt_tree.specs.Place.{above_place}
use Rattle.match_patterns.specs.Findings.{Tells}
use Rattle.match_patterns.specs.Patterns.{above, is_led, steps_match}
use Rattle.match_patterns.proofs.AboveLemmas.{upper, upper_is, within_path}
use Rattle.match_patterns.proofs.StepLemmas.{if_ok, some_is, none_is, none_tells, last_fails, last_tells, none_needed, led_tells}
use Rattle.match_patterns.proofs.StepLemmas.{parent_tells, no_parent_tells, up_found, up_further, up_nowhere, up_ended}
use Rattle.match_patterns.proofs.patterns.+matches.Goals as goal
use Rattle.match_patterns.proofs.patterns.+matches.Goals.{is_led-else-not-rooted-via-then-not-rooted+else-count-eq0}
use Rattle.match_patterns.proofs.patterns.+matches.Goals.{is_led-else-not-rooted-via-else-not-rooted}

pub first_match-returns-then-count-eq0 : goal.first_match-returns-then-count-eq0
first_match-returns-then-count-eq0 t c =
    none_tells c.args.rooted c.match_root.result c.args.steps.now c.args.count c.args.node.now c.if-count-eq0.true c.match_root.ensures

pub first_match-returns-then-not-branch : goal.first_match-returns-then-not-branch
first_match-returns-then-not-branch t c =
    last_fails c.in_ok-step_matches.field-0 c.args.rooted c.args.steps.now c.args.count c.index-steps-count.result _ c.args.node.now
    c.if-count-eq0.false c.requires.within c.index-steps-count.is c.in_ok-step_matches.ensures c.if-not-branch.true

pub first_match-returns : goal.first_match-returns
first_match-returns t c =
    if_ok c.is_led.result _ _
    (λ x told. last_tells x c.in_ok-step_matches.field-0 c.args.rooted c.args.steps.now c.args.count c.index-steps-count.result _ c.args.node.now
    c.if-count-eq0.false c.requires.within c.index-steps-count.is c.in_ok-step_matches.ensures c.if-not-branch.false told)
    c.is_led.ensures

pub is_led-returns-then-count-eq0 : goal.is_led-returns-then-count-eq0
is_led-returns-then-count-eq0 t c =
    none_needed c.args.rooted c.args.deep c.args.steps.now c.args.count c.args.node.now c.if-not-rooted.true c.if-count-eq0.true

pub is_led-returns-then-deep : goal.is_led-returns-then-deep
is_led-returns-then-deep t c =
    let some : c.args.rooted ≡ false → c.args.count ≡ 0 → ⊥ =
    elim c.else-not-rooted.branch [
      | is_led-else-not-rooted-via-then-not-rooted+else-count-eq0 w ↦ λ r z. w.if-count-eq0.false z
      | is_led-else-not-rooted-via-else-not-rooted w ↦ λ r z. cc
    ]
    in
    if_ok c.match_above.result _ _
    (λ x told. led_tells x c.args.rooted c.args.deep c.args.steps.now c.args.count c.args.node.now c.requires.within some
    (rw c.if-deep.true told)) c.match_above.ensures

pub is_led-returns-else-deep : goal.is_led-returns-else-deep
is_led-returns-else-deep t c =
    let some : c.args.rooted ≡ false → c.args.count ≡ 0 → ⊥ =
    elim c.else-not-rooted.branch [
      | is_led-else-not-rooted-via-then-not-rooted+else-count-eq0 w ↦ λ r z. w.if-count-eq0.false z
      | is_led-else-not-rooted-via-else-not-rooted w ↦ λ r z. cc
    ]
    in
    if_ok c.match_parent.result _ _
    (λ x told. led_tells x c.args.rooted c.args.deep c.args.steps.now c.args.count c.args.node.now c.requires.within some
    (rw c.if-deep.false told)) c.match_parent.ensures

pub match_parent-returns-in-Some : goal.match_parent-returns-in-Some
match_parent-returns-in-Some t c =
    if_ok c.first_match.result _ _
    (λ x told. parent_tells x (steps_match c.args.rooted (reverse (take c.args.count c.args.steps.now))) c.args.node.now c.in-Some.parent
    (sym c.in_ok-parent.ensures ∙ c.in-Some.is) told) c.first_match.ensures

pub match_parent-returns-in-None : goal.match_parent-returns-in-None
match_parent-returns-in-None t c =
    no_parent_tells (steps_match c.args.rooted (reverse (take c.args.count c.args.steps.now))) c.args.node.now
    (sym c.in_ok-parent.ensures ∙ c.in-None.is)

pub match_ancestor-returns-in-Some : goal.match_ancestor-returns-in-Some
match_ancestor-returns-in-Some t c =
    let e = some_is c.in-Some.above (above_place c.args.node.now c.args.depth) c.in_ok-above.field-0 c.in_ok-above.ensures c.in-Some.is in
    if_ok c.first_match.result _ _
    (λ x told. subst (Tells x (steps_match c.args.rooted (reverse (take c.args.count c.args.steps.now)))) e told) c.first_match.ensures

pub match_ancestor-returns-in-None : goal.match_ancestor-returns-in-None
match_ancestor-returns-in-None t c =
    none_is (above_place c.args.node.now c.args.depth) c.in_ok-above.field-0 c.in_ok-above.ensures c.in-None.is

pub match_above-loop-depth-init : goal.match_above-loop-depth-init
match_above-loop-depth-init t c = record {
  rest =
      upper_is
      (steps_match c.args.rooted (reverse (take c.args.count c.args.steps.now))) c.args.node.now c.count_above-depth.ensures.exists
      ∙ ap (upper (steps_match c.args.rooted (reverse (take c.args.count c.args.steps.now))) c.args.node.now)
      (sym c.count_above-depth.ensures.count);
  within = omega arith;
  exists = c.count_above-depth.ensures.exists;
}

pub match_above-match_ancestor-requires : goal.match_above-match_ancestor-requires
match_above-match_ancestor-requires t c =
    (search rules, (c.requires.quiet, (c.requires.within, within_path c.args.node.now c.loop-depth.depth c.loop-depth.invariant.within)))

pub match_above-returns-in-Here : goal.match_above-returns-in-Here
match_above-returns-in-Here t c =
    let z : c.loop-depth.depth ≡ 0 → ⊥ = λ e. omega arith in
    let f = steps_match c.args.rooted (reverse (take c.args.count c.args.steps.now)) in
    up_found f c.args.node.now c.loop-depth.depth c.loop-depth.invariant.rest z
    (subst (λ x. Tells x f (above_place c.args.node.now (c.loop-depth.depth - 1))) c.in-Here.is c.in_ok-match_ancestor.ensures)

pub match_above-returns-in-NotAbove : goal.match_above-returns-in-NotAbove
match_above-returns-in-NotAbove t c =
    let z : c.loop-depth.depth ≡ 0 → ⊥ = λ e. omega arith in
    let f = steps_match c.args.rooted (reverse (take c.args.count c.args.steps.now)) in
    up_nowhere f c.args.node.now c.loop-depth.depth c.loop-depth.invariant.rest z
    (within_path c.args.node.now c.loop-depth.depth c.loop-depth.invariant.within) c.loop-depth.invariant.exists
    (subst (λ x. Tells x f (above_place c.args.node.now (c.loop-depth.depth - 1))) c.in-NotAbove.is c.in_ok-match_ancestor.ensures)

pub match_above-loop-depth-preserved : goal.match_above-loop-depth-preserved
match_above-loop-depth-preserved t c =
    let z : c.loop-depth.depth ≡ 0 → ⊥ = λ e. omega arith in
    let f = steps_match c.args.rooted (reverse (take c.args.count c.args.steps.now)) in
    record {
      rest =
          up_further f c.args.node.now c.loop-depth.depth c.loop-depth.invariant.rest z
          (subst (λ x. Tells x f (above_place c.args.node.now (c.loop-depth.depth - 1))) c.in-NotHere.is c.in_ok-match_ancestor.ensures);
      within = omega arith;
      exists = c.loop-depth.invariant.exists;
    }

pub match_above-returns : goal.match_above-returns
match_above-returns t c =
    up_ended
    (steps_match c.args.rooted (reverse (take c.args.count c.args.steps.now))) c.args.node.now c.loop-depth.depth
    c.loop-depth.invariant.rest (omega arith)
