use Rattle.std.proofs.Common.{length, drop}
use Rattle.expr_terms.specs.Productions.{body}
use Rattle.expr_reader.proofs.steps.+along.Given as goal

abbrev pub decreases-along : goal.decreases-along
decreases-along l = length (drop l.frame.place (body l.frame.production))
