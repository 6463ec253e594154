use Rattle.std.proofs.Common.{◌≡◌, List, ◌-◌, suc, length, sym, ap, ◌∙◌, arith}
use Rattle.node_walks.specs.Moves.{settled}
use Rattle.node_walks.proofs.MoveLemmas.{all_on}
use Rattle.lazy_seq.specs.Flow.{Flow}
use Rattle.lazy_seq.specs.Stacks.{stacked}
use Rattle.lazy_seq.proofs.MoveLemmas.{stands_item}
use Rattle.lazy_seq.proofs.StackLemmas.{next_top, kept_top, all_top, no_steps_top, ready_top}
use Rattle.lazy_seq.proofs.StackLemmas.{on_err}
use Rattle.lazy_seq.proofs.stacks.next_of_parts.Goals as goal

pub returns-clause-after : goal.returns-clause-after
returns-clause-after g c =
    let ready = c.in_ok-bring_up.ensures.ready c.if-not-branch.false in
    let some = ready.some in
    let n = ap length c.as_slice.ensures.value in
    let e : suc (length c.as_slice.result.now - 1) ≡ length c.bring_up.new.parts.items =
    omega arith in
    sym c.bring_up.ensures.rest
    ∙ next_top c.bring_up.new.parts.items (length c.as_slice.result.now - 1)
    c.index_mut.result.now c.next_of_top.new.self c.in_ok-item.item e c.index_mut.ensures.value
    ready c.in_ok-item.ensures.after

pub returns-clause-some : goal.returns-clause-some
returns-clause-some g c =
    let ready = c.in_ok-bring_up.ensures.ready c.if-not-branch.false in
    let some = ready.some in
    let n = ap length c.as_slice.ensures.value in
    let e : suc (length c.as_slice.result.now - 1) ≡ length c.bring_up.new.parts.items =
    omega arith in
    c.in_ok-item.ensures.some
    ∙ stands_item c.index_mut.result.now.moves
    (ready_top c.bring_up.new.parts.items (length c.as_slice.result.now - 1)
    c.index_mut.result.now e c.index_mut.ensures.value ready) ∙ sym c.if-not-branch.false
    ∙ c.in_ok-bring_up.ensures.some

pub returns-clause-steps : goal.returns-clause-steps
returns-clause-steps g c =
    let ready = c.in_ok-bring_up.ensures.ready c.if-not-branch.false in
    let some = ready.some in
    let n = ap length c.as_slice.ensures.value in
    let e : suc (length c.as_slice.result.now - 1) ≡ length c.bring_up.new.parts.items =
    omega arith in
    let t = c.next_of_top.ensures.steps in
    let z = no_steps_top c.bring_up.new.parts.items (length c.as_slice.result.now - 1)
    c.index_mut.result.now e c.index_mut.ensures.value ready in
    let b = c.bring_up.ensures.steps in omega arith

pub returns-clause-all : goal.returns-clause-all
returns-clause-all g c =
    let ready = c.in_ok-bring_up.ensures.ready c.if-not-branch.false in
    let some = ready.some in
    let n = ap length c.as_slice.ensures.value in
    let e : suc (length c.as_slice.result.now - 1) ≡ length c.bring_up.new.parts.items =
    omega arith in
    let t = all_top c.bring_up.new.parts.items (length c.as_slice.result.now - 1)
    c.index_mut.result.now c.next_of_top.new.self c.bring_up.new.steps c.next_of_top.new.steps
    e c.index_mut.ensures.value c.next_of_top.ensures.all in
    t ∙ all_on (stacked c.args.parts.now.items) (stacked c.bring_up.new.parts.items)
    c.args.steps.now c.bring_up.new.steps c.bring_up.ensures.rest c.bring_up.ensures.steps

pub returns-in_err-item-clause-err : goal.returns-in_err-item-clause-err
returns-in_err-item-clause-err g c =
    let ready = c.in_ok-bring_up.ensures.ready c.if-not-branch.false in
    let some = ready.some in
    let n = ap length c.as_slice.ensures.value in
    let e : suc (length c.as_slice.result.now - 1) ≡ length c.bring_up.new.parts.items =
    omega arith in
    on_err c.from_residual-in_err-item.result _
    (kept_top c.bring_up.new.parts.items (length c.as_slice.result.now - 1)
    c.index_mut.result.now c.next_of_top.new.self e c.index_mut.ensures.value
    c.in_err-item.ensures.err ∙ c.bring_up.ensures.rest)

pub returns-in_err-item-clause-steps : goal.returns-in_err-item-clause-steps
returns-in_err-item-clause-steps g c =
    let ready = c.in_ok-bring_up.ensures.ready c.if-not-branch.false in
    let some = ready.some in
    let n = ap length c.as_slice.ensures.value in
    let e : suc (length c.as_slice.result.now - 1) ≡ length c.bring_up.new.parts.items =
    omega arith in
    let t = c.next_of_top.ensures.steps in
    let z = no_steps_top c.bring_up.new.parts.items (length c.as_slice.result.now - 1)
    c.index_mut.result.now e c.index_mut.ensures.value ready in
    let b = c.bring_up.ensures.steps in omega arith

pub returns-in_err-item-clause-all : goal.returns-in_err-item-clause-all
returns-in_err-item-clause-all g c =
    let ready = c.in_ok-bring_up.ensures.ready c.if-not-branch.false in
    let some = ready.some in
    let n = ap length c.as_slice.ensures.value in
    let e : suc (length c.as_slice.result.now - 1) ≡ length c.bring_up.new.parts.items =
    omega arith in
    let t = all_top c.bring_up.new.parts.items (length c.as_slice.result.now - 1)
    c.index_mut.result.now c.next_of_top.new.self c.bring_up.new.steps c.next_of_top.new.steps
    e c.index_mut.ensures.value c.next_of_top.ensures.all in
    t ∙ all_on (stacked c.args.parts.now.items) (stacked c.bring_up.new.parts.items)
    c.args.steps.now c.bring_up.new.steps c.bring_up.ensures.rest c.bring_up.ensures.steps

pub returns-in_err-bring_up-clause-all : goal.returns-in_err-bring_up-clause-all
returns-in_err-bring_up-clause-all g c =
    all_on (stacked c.args.parts.now.items) (stacked c.bring_up.new.parts.items) c.args.steps.now
    c.bring_up.new.steps c.bring_up.ensures.rest c.bring_up.ensures.steps

pub returns-then-not-branch-clause-all : goal.returns-then-not-branch-clause-all
returns-then-not-branch-clause-all g c =
    all_on (stacked c.args.parts.now.items) (stacked c.bring_up.new.parts.items) c.args.steps.now
    c.bring_up.new.steps c.bring_up.ensures.rest c.bring_up.ensures.steps

pub returns-then-not-branch-clause-after : goal.returns-then-not-branch-clause-after
returns-then-not-branch-clause-after g c =
    let z = c.in_ok-bring_up.ensures.none c.if-not-branch.true in
    sym c.bring_up.ensures.rest ∙ ap (λ (zs : List Flow). settled (stacked zs)) z
    ∙ sym (ap stacked z)
