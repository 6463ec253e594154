use Rattle.std.proofs.Common.{◌∙◌}
use Rattle.node_axes.proofs.StartLemmas.{starts_with_is}
use Rattle.node_axes.proofs.moves.is_above.Goals as goal

pub returns : goal.returns
returns c = c.starts_with.ensures.value ∙ starts_with_is c.args.above.now c.args.path.now
