use Rattle.pattern_syntax.proofs.ReadingLemmas.{lexed_once, spells_once}
use Rattle.pattern_syntax.proofs.laws.spells_one.Goals as goal

pub returns-clause-lexed : goal.returns-clause-lexed
returns-clause-lexed c = lexed_once

pub returns-clause-one : goal.returns-clause-one
returns-clause-one c = spells_once
