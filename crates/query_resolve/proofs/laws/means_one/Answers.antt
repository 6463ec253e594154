use Rattle.query_resolve.proofs.MeaningLemmas.{means_one, meant_unbroken}
use Rattle.query_resolve.proofs.laws.means_one.Goals as goal

pub returns-clause-one : goal.returns-clause-one
returns-clause-one c = means_one

pub returns-clause-unbroken : goal.returns-clause-unbroken
returns-clause-unbroken c = meant_unbroken
