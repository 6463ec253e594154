use Rattle.std.proofs.Common.{◌≡◌, ◌+◌, is_some, sym, ap, ◌∙◌, arith}
use Rattle.node_walks.specs.Moves.{Moves, settled, standing, passed, steps_before, all_steps}
use Rattle.node_walks.specs.Trails.{trail_moves}
use Rattle.node_walks.proofs.MoveLemmas.{had, all_on, all_passed, has_standing}
use Rattle.node_walks.proofs.walks.Walk.next.Goals as goal

pub returns-in_err-settle-clause-all : goal.returns-in_err-settle-clause-all
returns-in_err-settle-clause-all g c =
    all_on c.args.self.now (trail_moves c.settle.new.self) c.args.steps.now c.settle.new.steps (c.settle.ensures.rest ∙ ap settled c.self.view_is)
    (c.settle.ensures.steps ∙ ap (λ (z : Moves). c.args.steps.now + steps_before z) c.self.view_is)

pub returns-then-not-branch-clause-some : goal.returns-then-not-branch-clause-some
returns-then-not-branch-clause-some g c =
    let s = c.in_ok-settle.ensures.stands ∙ ap settled c.self.view_is in
    sym c.if-not-branch.true ∙ had c.args.self.now (trail_moves c.settle.new.self) c.in_ok-settle.field-0 s c.in_ok-settle.ensures.found

pub returns-then-not-branch-clause-all : goal.returns-then-not-branch-clause-all
returns-then-not-branch-clause-all g c =
    all_on c.args.self.now (trail_moves c.settle.new.self) c.args.steps.now c.settle.new.steps (c.settle.ensures.rest ∙ ap settled c.self.view_is)
    (c.settle.ensures.steps ∙ ap (λ (z : Moves). c.args.steps.now + steps_before z) c.self.view_is)

pub returns-in_err-node-clause-all : goal.returns-in_err-node-clause-all
returns-in_err-node-clause-all g c =
    all_on c.args.self.now (trail_moves c.settle.new.self) c.args.steps.now c.settle.new.steps (c.settle.ensures.rest ∙ ap settled c.self.view_is)
    (c.settle.ensures.steps ∙ ap (λ (z : Moves). c.args.steps.now + steps_before z) c.self.view_is)

pub returns-clause-some : goal.returns-clause-some
returns-clause-some g c =
    let s = c.in_ok-settle.ensures.stands ∙ ap settled c.self.view_is in
    ap is_some (c.item_of.ensures ∙ c.in_ok-node.ensures ∙ ap standing s) ∙ has_standing c.args.self.now

pub returns-clause-all : goal.returns-clause-all
returns-clause-all g c =
    let s = c.in_ok-settle.ensures.stands ∙ ap settled c.self.view_is in
    let e : all_steps (trail_moves c.pass.new.self) ≡ all_steps (trail_moves c.settle.new.self) =
    ap all_steps (c.pass.ensures ∙ ap passed s) ∙ all_passed c.args.self.now ∙ ap all_steps (sym s) in
    ap (λ n. c.settle.new.steps + n) e ∙
    all_on c.args.self.now (trail_moves c.settle.new.self) c.args.steps.now c.settle.new.steps (c.settle.ensures.rest ∙ ap settled c.self.view_is)
    (c.settle.ensures.steps ∙ ap (λ (z : Moves). c.args.steps.now + steps_before z) c.self.view_is)
