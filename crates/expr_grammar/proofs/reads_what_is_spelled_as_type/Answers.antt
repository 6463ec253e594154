use Rattle.expr_grammar.proofs.Run.{spells_type_runs, runs_spells_type, refused_type}
use Rattle.expr_grammar.proofs.reads_what_is_spelled_as_type.Goals as goal

pub returns-clause-found : goal.returns-clause-found
returns-clause-found c = λ l ts v. ((λ s. spells_type_runs s), (λ e. runs_spells_type e))

pub returns-clause-none : goal.returns-clause-none
returns-clause-none c = λ l ts e v s. refused_type e v s
