use Rattle.std.proofs.Common.{sym, ap, ◌∙◌}
use Rattle.node_walks.specs.Moves.{settled}
use Rattle.node_walks.specs.Trails.{trail_moves}
use Rattle.node_walks.proofs.MoveLemmas.{had}
use Rattle.node_walks.proofs.walks.Walk.skip.Goals as goal

pub returns-then-not-branch-clause-some : goal.returns-then-not-branch-clause-some
returns-then-not-branch-clause-some g c =
    let s = c.in_ok-settle.ensures.stands ∙ ap settled c.self.view_is in
    sym c.if-not-branch.true ∙ had c.args.self.now (trail_moves c.settle.new.self) c.in_ok-settle.field-0 s c.in_ok-settle.ensures.found

pub returns-clause-some : goal.returns-clause-some
returns-clause-some g c =
    let s = c.in_ok-settle.ensures.stands ∙ ap settled c.self.view_is in
    sym c.if-not-branch.false ∙ had c.args.self.now (trail_moves c.settle.new.self) c.in_ok-settle.field-0 s c.in_ok-settle.ensures.found
