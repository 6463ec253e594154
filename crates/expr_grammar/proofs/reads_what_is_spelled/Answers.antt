use Rattle.expr_grammar.proofs.Run.{spells_runs, runs_spells, refused}
use Rattle.expr_grammar.proofs.reads_what_is_spelled.Goals as goal

pub returns-clause-found : goal.returns-clause-found
returns-clause-found c = λ l ts v. ((λ s. spells_runs s), (λ e. runs_spells e))

pub returns-clause-none : goal.returns-clause-none
returns-clause-none c = λ l ts e v s. refused e v s
