use Rattle.node_walks.specs.Trails.{trail_moves}
use Rattle.node_walks.proofs.MoveLemmas.{some_if_ok}
use Rattle.node_walks.proofs.walks.Walk.settle.Goals as goal

pub returns-clause-some : goal.returns-clause-some
returns-clause-some g c =
    some_if_ok c.settle.result c.args.self.now (trail_moves c.self.inside.trail) (trail_moves c.settle.new.self) c.self.view_is c.settle.ensures.stands c.settle.ensures.found
