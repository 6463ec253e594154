use Rattle.std.proofs.Common.{refl, rules, arith, get_or}
use Rattle.std.proofs.lemmas.List.{get_or_default}
use Rattle.global_order.proofs.WaitLemmas.{need_turn, needs_over}
use Rattle.global_order.proofs.waits.open_need.Goals as goal

pub loop-need-init : goal.loop-need-init
loop-need-init c = record { same = refl; within = λ m h. h }

pub loop-need-preserved : goal.loop-need-preserved
loop-need-preserved c =
    let needs = c.args.needs.now in
    let i = c.loop-need.need-index in
    need_turn c.args.marks.now needs i (get_or needs i 0) c.loop-need-test.true
    (get_or_default needs i 0 (get_or needs i 0) c.loop-need-test.true)
    (search (rules, c.is_marked.ensures, c.if-not-is_marked.false)) c.loop-need.invariant

pub returns-clause-none : goal.returns-clause-none
returns-clause-none c =
    needs_over c.args.marks.now c.args.needs.now c.loop-need.need-index (omega (arith, c.loop-need-test.false)) c.loop-need.invariant
