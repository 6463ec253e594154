use Rattle.loaded_sheets.proofs.WideLemmas.{together_told, all_told}
use Rattle.loaded_sheets.proofs.laws.broken_rules_are_told.Goals as goal

pub returns-clause-wide : goal.returns-clause-wide
returns-clause-wide c = λ ds called s. together_told ds called s

pub returns-clause-all : goal.returns-clause-all
returns-clause-all c = λ l. all_told l
