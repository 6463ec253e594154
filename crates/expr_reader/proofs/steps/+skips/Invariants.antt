use Rattle.std.proofs.Common.{length, drop}
use Rattle.expr_terms.specs.Productions.{body}
use Rattle.expr_reader.proofs.steps.+skips.Given as goal

abbrev pub decreases-skips : goal.decreases-skips
decreases-skips l = length (drop l.place (body l.production))
