use Rattle.query_resolve.proofs.MeaningLemmas.{meant_resolved, resolved_meant, broken_among}
use Rattle.query_resolve.proofs.MeaningLemmas.{among_broken}
use Rattle.query_resolve.proofs.laws.resolves_what_is_meant.Goals as goal

pub returns-clause-meant : goal.returns-clause-meant
returns-clause-meant c = λ raw q. (meant_resolved raw q, resolved_meant raw q)

pub returns-clause-broken : goal.returns-clause-broken
returns-clause-broken c = λ raw c. (broken_among raw c, among_broken raw c)
