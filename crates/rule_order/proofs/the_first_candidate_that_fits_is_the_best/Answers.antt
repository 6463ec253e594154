use Rattle.rule_order.proofs.Fitting.{first_is_best}
use Rattle.rule_order.proofs.the_first_candidate_that_fits_is_the_best.Goals as goal

pub returns : goal.returns
returns c = first_is_best
