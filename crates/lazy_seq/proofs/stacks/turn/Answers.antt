use Rattle.std.proofs.Common.{◌≡◌, ◌-◌, suc, length, ap, subst, arith}
use Rattle.node_walks.specs.Quiet.{IsOn}
use Rattle.lazy_seq.specs.Looks.{Looks, IsReadyTop, IsNoTop, IsTaken}
use Rattle.lazy_seq.specs.Stacks.{parts_flow}
use Rattle.lazy_seq.specs.declared.stacks.Top.{Top}
use Rattle.lazy_seq.proofs.StackLemmas.{turn_ready, turn_nothing, turn_stack, turn_back, on_top}
use Rattle.lazy_seq.proofs.stacks.turn.Goals as goal

pub returns-in-Ready-clause-rest : goal.returns-in-Ready-clause-rest
returns-in-Ready-clause-rest g c =
    let n = ap length c.as_slice.ensures.value in
    let e : suc (length c.as_slice.result.now - 1) ≡ length c.args.parts.now.items = omega arith in
    let q : IsReadyTop c.args.steps.now c.look.new.steps c.index_mut.result.now c.look.new.self =
    subst (λ (z : Top). Looks z c.args.steps.now c.look.new.steps c.index_mut.result.now
    c.look.new.self) c.in-Ready.is c.in_ok-look.ensures.looks in
    let r = turn_ready c.args.parts.now.items (length c.as_slice.result.now - 1)
    c.index_mut.result.now c.look.new.self c.args.steps.now c.look.new.steps e
    c.index_mut.ensures.value q in r.0.rest

pub returns-in-Ready-clause-steps : goal.returns-in-Ready-clause-steps
returns-in-Ready-clause-steps g c =
    let n = ap length c.as_slice.ensures.value in
    let e : suc (length c.as_slice.result.now - 1) ≡ length c.args.parts.now.items = omega arith in
    let q : IsReadyTop c.args.steps.now c.look.new.steps c.index_mut.result.now c.look.new.self =
    subst (λ (z : Top). Looks z c.args.steps.now c.look.new.steps c.index_mut.result.now
    c.look.new.self) c.in-Ready.is c.in_ok-look.ensures.looks in
    let r = turn_ready c.args.parts.now.items (length c.as_slice.result.now - 1)
    c.index_mut.result.now c.look.new.self c.args.steps.now c.look.new.steps e
    c.index_mut.ensures.value q in r.0.steps

pub returns-in-Ready-clause-ready : goal.returns-in-Ready-clause-ready
returns-in-Ready-clause-ready g c =
    let n = ap length c.as_slice.ensures.value in
    let e : suc (length c.as_slice.result.now - 1) ≡ length c.args.parts.now.items = omega arith in
    let q : IsReadyTop c.args.steps.now c.look.new.steps c.index_mut.result.now c.look.new.self =
    subst (λ (z : Top). Looks z c.args.steps.now c.look.new.steps c.index_mut.result.now
    c.look.new.self) c.in-Ready.is c.in_ok-look.ensures.looks in
    let r = turn_ready c.args.parts.now.items (length c.as_slice.result.now - 1)
    c.index_mut.result.now c.look.new.self c.args.steps.now c.look.new.steps e
    c.index_mut.ensures.value q in λ _. r.1

pub returns-in-Nothing-clause-rest : goal.returns-in-Nothing-clause-rest
returns-in-Nothing-clause-rest g c =
    let n = ap length c.as_slice.ensures.value in
    let e : suc (length c.as_slice.result.now - 1) ≡ length c.args.parts.now.items = omega arith in
    let q : IsNoTop c.args.steps.now c.look.new.steps c.index_mut.result.now =
    subst (λ (z : Top). Looks z c.args.steps.now c.look.new.steps c.index_mut.result.now
    c.look.new.self) c.in-Nothing.is c.in_ok-look.ensures.looks in
    let r = turn_nothing c.args.parts.now.items c.truncate.new.self.items
    (length c.as_slice.result.now - 1) c.index_mut.result.now c.look.new.self c.args.steps.now
    c.look.new.steps e c.index_mut.ensures.value q c.truncate.ensures.items in r.0.rest

pub returns-in-Nothing-clause-steps : goal.returns-in-Nothing-clause-steps
returns-in-Nothing-clause-steps g c =
    let n = ap length c.as_slice.ensures.value in
    let e : suc (length c.as_slice.result.now - 1) ≡ length c.args.parts.now.items = omega arith in
    let q : IsNoTop c.args.steps.now c.look.new.steps c.index_mut.result.now =
    subst (λ (z : Top). Looks z c.args.steps.now c.look.new.steps c.index_mut.result.now
    c.look.new.self) c.in-Nothing.is c.in_ok-look.ensures.looks in
    let r = turn_nothing c.args.parts.now.items c.truncate.new.self.items
    (length c.as_slice.result.now - 1) c.index_mut.result.now c.look.new.self c.args.steps.now
    c.look.new.steps e c.index_mut.ensures.value q c.truncate.ensures.items in r.0.steps

pub returns-in-Nothing-clause-less : goal.returns-in-Nothing-clause-less
returns-in-Nothing-clause-less g c =
    let n = ap length c.as_slice.ensures.value in
    let e : suc (length c.as_slice.result.now - 1) ≡ length c.args.parts.now.items = omega arith in
    let q : IsNoTop c.args.steps.now c.look.new.steps c.index_mut.result.now =
    subst (λ (z : Top). Looks z c.args.steps.now c.look.new.steps c.index_mut.result.now
    c.look.new.self) c.in-Nothing.is c.in_ok-look.ensures.looks in
    let r = turn_nothing c.args.parts.now.items c.truncate.new.self.items
    (length c.as_slice.result.now - 1) c.index_mut.result.now c.look.new.self c.args.steps.now
    c.look.new.steps e c.index_mut.ensures.value q c.truncate.ensures.items in λ _. r.1

pub returns-in-Ok-clause-rest : goal.returns-in-Ok-clause-rest
returns-in-Ok-clause-rest g c =
    let n = ap length c.as_slice.ensures.value in
    let e : suc (length c.as_slice.result.now - 1) ≡ length c.args.parts.now.items = omega arith in
    let q : IsTaken c.args.steps.now c.look.new.steps (parts_flow c.in-Stack.inner.items)
    c.index_mut.result.now c.look.new.self =
    subst (λ (z : Top). Looks z c.args.steps.now c.look.new.steps c.index_mut.result.now
    c.look.new.self) c.in-Stack.is c.in_ok-look.ensures.looks in
    let r = turn_stack c.args.parts.now.items c.append.new.self.items c.in-Stack.inner.items
    (length c.as_slice.result.now - 1) c.index_mut.result.now c.look.new.self c.args.steps.now
    c.look.new.steps e c.index_mut.ensures.value q c.in-Ok.ensures.items in r.0.rest

pub returns-in-Ok-clause-steps : goal.returns-in-Ok-clause-steps
returns-in-Ok-clause-steps g c =
    let n = ap length c.as_slice.ensures.value in
    let e : suc (length c.as_slice.result.now - 1) ≡ length c.args.parts.now.items = omega arith in
    let q : IsTaken c.args.steps.now c.look.new.steps (parts_flow c.in-Stack.inner.items)
    c.index_mut.result.now c.look.new.self =
    subst (λ (z : Top). Looks z c.args.steps.now c.look.new.steps c.index_mut.result.now
    c.look.new.self) c.in-Stack.is c.in_ok-look.ensures.looks in
    let r = turn_stack c.args.parts.now.items c.append.new.self.items c.in-Stack.inner.items
    (length c.as_slice.result.now - 1) c.index_mut.result.now c.look.new.self c.args.steps.now
    c.look.new.steps e c.index_mut.ensures.value q c.in-Ok.ensures.items in r.0.steps

pub returns-in-Ok-clause-less : goal.returns-in-Ok-clause-less
returns-in-Ok-clause-less g c =
    let n = ap length c.as_slice.ensures.value in
    let e : suc (length c.as_slice.result.now - 1) ≡ length c.args.parts.now.items = omega arith in
    let q : IsTaken c.args.steps.now c.look.new.steps (parts_flow c.in-Stack.inner.items)
    c.index_mut.result.now c.look.new.self =
    subst (λ (z : Top). Looks z c.args.steps.now c.look.new.steps c.index_mut.result.now
    c.look.new.self) c.in-Stack.is c.in_ok-look.ensures.looks in
    let r = turn_stack c.args.parts.now.items c.append.new.self.items c.in-Stack.inner.items
    (length c.as_slice.result.now - 1) c.index_mut.result.now c.look.new.self c.args.steps.now
    c.look.new.steps e c.index_mut.ensures.value q c.in-Ok.ensures.items in λ _. r.1

pub returns-in-Err-clause-rest : goal.returns-in-Err-clause-rest
returns-in-Err-clause-rest g c =
    let n = ap length c.as_slice.ensures.value in
    let e : suc (length c.as_slice.result.now - 1) ≡ length c.args.parts.now.items = omega arith in
    let q : IsTaken c.args.steps.now c.look.new.steps (parts_flow c.in-Stack.inner.items)
    c.index_mut.result.now c.look.new.self =
    subst (λ (z : Top). Looks z c.args.steps.now c.look.new.steps c.index_mut.result.now
    c.look.new.self) c.in-Stack.is c.in_ok-look.ensures.looks in
    let r = turn_back c.args.parts.now.items c.append.new.self.items c.in-Stack.inner.items
    c.append.new.other.items (length c.as_slice.result.now - 1) c.index_mut.result.now
    c.look.new.self c.refill.new.self c.args.steps.now c.look.new.steps e
    c.index_mut.ensures.value q c.in-Err.ensures.items c.refill.ensures
    c.in-Err.ensures.other_items in r.rest

pub returns-in-Err-clause-steps : goal.returns-in-Err-clause-steps
returns-in-Err-clause-steps g c =
    let n = ap length c.as_slice.ensures.value in
    let e : suc (length c.as_slice.result.now - 1) ≡ length c.args.parts.now.items = omega arith in
    let q : IsTaken c.args.steps.now c.look.new.steps (parts_flow c.in-Stack.inner.items)
    c.index_mut.result.now c.look.new.self =
    subst (λ (z : Top). Looks z c.args.steps.now c.look.new.steps c.index_mut.result.now
    c.look.new.self) c.in-Stack.is c.in_ok-look.ensures.looks in
    let r = turn_back c.args.parts.now.items c.append.new.self.items c.in-Stack.inner.items
    c.append.new.other.items (length c.as_slice.result.now - 1) c.index_mut.result.now
    c.look.new.self c.refill.new.self c.args.steps.now c.look.new.steps e
    c.index_mut.ensures.value q c.in-Err.ensures.items c.refill.ensures
    c.in-Err.ensures.other_items in r.steps

pub returns-in_err-look-clause-rest : goal.returns-in_err-look-clause-rest
returns-in_err-look-clause-rest g c =
    let n = ap length c.as_slice.ensures.value in
    let e : suc (length c.as_slice.result.now - 1) ≡ length c.args.parts.now.items = omega arith in
    let o : IsOn c.args.steps.now c.look.new.steps c.index_mut.result.now.moves
    c.look.new.self.moves =
    record { rest = c.in_err-look.ensures.err; steps = c.in_err-look.ensures.err_steps } in
    (on_top c.args.parts.now.items (length c.as_slice.result.now - 1) c.index_mut.result.now
    c.look.new.self c.args.steps.now c.look.new.steps e c.index_mut.ensures.value o).rest

pub returns-in_err-look-clause-steps : goal.returns-in_err-look-clause-steps
returns-in_err-look-clause-steps g c =
    let n = ap length c.as_slice.ensures.value in
    let e : suc (length c.as_slice.result.now - 1) ≡ length c.args.parts.now.items = omega arith in
    let o : IsOn c.args.steps.now c.look.new.steps c.index_mut.result.now.moves
    c.look.new.self.moves =
    record { rest = c.in_err-look.ensures.err; steps = c.in_err-look.ensures.err_steps } in
    (on_top c.args.parts.now.items (length c.as_slice.result.now - 1) c.index_mut.result.now
    c.look.new.self c.args.steps.now c.look.new.steps e c.index_mut.ensures.value o).steps
