use Rattle.query_helpers.proofs.Bounds.{copy_fits, last_fits, nodes_fits, simple_fits}
use Rattle.query_helpers.proofs.laws.helpers_fit_into_every_query.Goals as goal

pub returns-clause-nodes : goal.returns-clause-nodes
returns-clause-nodes c = nodes_fits

pub returns-clause-copy : goal.returns-clause-copy
returns-clause-copy c = copy_fits

pub returns-clause-last : goal.returns-clause-last
returns-clause-last c = last_fits

pub returns-clause-simple : goal.returns-clause-simple
returns-clause-simple c = simple_fits
