use Rattle.node_axes.proofs.MoveLemmas.{ups}
use Rattle.node_axes.proofs.moves.go_up.Goals as goal

pub returns-in-Some-clause-yes : goal.returns-in-Some-clause-yes
returns-in-Some-clause-yes c = λ _. ups c.args.tree.now c.args.path.now.items c.pop.new.self.items _ c.requires c.in-Some.ensures.items
