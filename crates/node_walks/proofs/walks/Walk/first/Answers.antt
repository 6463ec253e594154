use Rattle.std.proofs.Common.{sym, ap, ◌∙◌}
use Rattle.node_walks.specs.Moves.{settled, standing}
use Rattle.node_walks.specs.Trails.{trail_moves}
use Rattle.node_walks.proofs.MoveLemmas.{had, beyond, standing_is_first}
use Rattle.node_walks.proofs.walks.Walk.first.Goals as goal

pub returns-then-not-branch-clause-first : goal.returns-then-not-branch-clause-first
returns-then-not-branch-clause-first g c =
    let s = c.in_ok-settle.ensures.stands ∙ ap settled c.self.view_is in
    let h = had c.args.self.now (trail_moves c.settle.new.self) c.in_ok-settle.field-0 s c.in_ok-settle.ensures.found in
    sym (beyond c.args.self.now 0 (sym h ∙ c.if-not-branch.true))

pub returns-clause-first : goal.returns-clause-first
returns-clause-first g c =
    let s = c.in_ok-settle.ensures.stands ∙ ap settled c.self.view_is in
    c.item_of.ensures ∙ c.in_ok-node.ensures ∙ ap standing s ∙ standing_is_first c.args.self.now
