use Rattle.query_grammar.proofs.Run.{spells_reads, reads_spells, query_refused}
use Rattle.query_grammar.proofs.reads_what_is_spelled.Goals as goal

pub returns-clause-found : goal.returns-clause-found
returns-clause-found c = λ ts q. ((λ s. spells_reads s), (λ e. reads_spells e))

pub returns-clause-none : goal.returns-clause-none
returns-clause-none c = λ ts e q s. query_refused e q s
