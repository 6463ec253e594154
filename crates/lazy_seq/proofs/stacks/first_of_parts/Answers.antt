use Rattle.std.proofs.Common.{◌≡◌, List, ◌-◌, suc, length, slice_get, sym, ap, ◌∙◌, arith}
use Rattle.node_walks.specs.Quiet.{IsOn}
use Rattle.node_walks.proofs.MoveLemmas.{same_given}
use Rattle.xdm_items.specs.declared.items.Item.{Item}
use Rattle.lazy_seq.specs.Stacks.{stacked}
use Rattle.lazy_seq.proofs.StackLemmas.{on_top, first_top}
use Rattle.lazy_seq.proofs.stacks.first_of_parts.Goals as goal

pub returns-clause-rest : goal.returns-clause-rest
returns-clause-rest g c =
    let ready = c.in_ok-bring_up.ensures.ready c.if-not-branch.false in
    let some = ready.some in
    let n = ap length c.as_slice.ensures.value in
    let e : suc (length c.as_slice.result.now - 1) ≡ length c.bring_up.new.parts.items =
    omega arith in
    let o : IsOn c.bring_up.new.steps c.first_of_top.new.steps c.index_mut.result.now.moves
    c.first_of_top.new.self.moves =
    record { rest = c.first_of_top.ensures.rest; steps = c.first_of_top.ensures.steps } in
    let r = on_top c.bring_up.new.parts.items (length c.as_slice.result.now - 1)
    c.index_mut.result.now c.first_of_top.new.self c.bring_up.new.steps
    c.first_of_top.new.steps e c.index_mut.ensures.value o in
    r.rest ∙ c.bring_up.ensures.rest

pub returns-clause-first : goal.returns-clause-first
returns-clause-first g c =
    let ready = c.in_ok-bring_up.ensures.ready c.if-not-branch.false in
    let some = ready.some in
    let n = ap length c.as_slice.ensures.value in
    let e : suc (length c.as_slice.result.now - 1) ≡ length c.bring_up.new.parts.items =
    omega arith in
    c.in_ok-item.ensures.first
    ∙ sym (first_top c.bring_up.new.parts.items (length c.as_slice.result.now - 1)
    c.index_mut.result.now e c.index_mut.ensures.value ready)
    ∙ ap (λ (xs : List Item). slice_get xs 0)
    (same_given (stacked c.bring_up.new.parts.items) (stacked c.args.parts.now.items)
    c.bring_up.ensures.rest)

pub returns-clause-steps : goal.returns-clause-steps
returns-clause-steps g c =
    let ready = c.in_ok-bring_up.ensures.ready c.if-not-branch.false in
    let some = ready.some in
    let n = ap length c.as_slice.ensures.value in
    let e : suc (length c.as_slice.result.now - 1) ≡ length c.bring_up.new.parts.items =
    omega arith in
    let o : IsOn c.bring_up.new.steps c.first_of_top.new.steps c.index_mut.result.now.moves
    c.first_of_top.new.self.moves =
    record { rest = c.first_of_top.ensures.rest; steps = c.first_of_top.ensures.steps } in
    let r = on_top c.bring_up.new.parts.items (length c.as_slice.result.now - 1)
    c.index_mut.result.now c.first_of_top.new.self c.bring_up.new.steps
    c.first_of_top.new.steps e c.index_mut.ensures.value o in
    let s = r.steps in let b = c.bring_up.ensures.steps in omega arith

pub returns-in_err-item-clause-rest : goal.returns-in_err-item-clause-rest
returns-in_err-item-clause-rest g c =
    let ready = c.in_ok-bring_up.ensures.ready c.if-not-branch.false in
    let some = ready.some in
    let n = ap length c.as_slice.ensures.value in
    let e : suc (length c.as_slice.result.now - 1) ≡ length c.bring_up.new.parts.items =
    omega arith in
    let o : IsOn c.bring_up.new.steps c.first_of_top.new.steps c.index_mut.result.now.moves
    c.first_of_top.new.self.moves =
    record { rest = c.first_of_top.ensures.rest; steps = c.first_of_top.ensures.steps } in
    let r = on_top c.bring_up.new.parts.items (length c.as_slice.result.now - 1)
    c.index_mut.result.now c.first_of_top.new.self c.bring_up.new.steps
    c.first_of_top.new.steps e c.index_mut.ensures.value o in
    r.rest ∙ c.bring_up.ensures.rest

pub returns-in_err-item-clause-steps : goal.returns-in_err-item-clause-steps
returns-in_err-item-clause-steps g c =
    let ready = c.in_ok-bring_up.ensures.ready c.if-not-branch.false in
    let some = ready.some in
    let n = ap length c.as_slice.ensures.value in
    let e : suc (length c.as_slice.result.now - 1) ≡ length c.bring_up.new.parts.items =
    omega arith in
    let o : IsOn c.bring_up.new.steps c.first_of_top.new.steps c.index_mut.result.now.moves
    c.first_of_top.new.self.moves =
    record { rest = c.first_of_top.ensures.rest; steps = c.first_of_top.ensures.steps } in
    let r = on_top c.bring_up.new.parts.items (length c.as_slice.result.now - 1)
    c.index_mut.result.now c.first_of_top.new.self c.bring_up.new.steps
    c.first_of_top.new.steps e c.index_mut.ensures.value o in
    let s = r.steps in let b = c.bring_up.ensures.steps in omega arith
