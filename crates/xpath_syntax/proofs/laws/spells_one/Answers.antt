use Rattle.xpath_syntax.proofs.ReadingLemmas.{spells_once, spells_unbroken}
use Rattle.xpath_syntax.proofs.laws.spells_one.Goals as goal

pub returns-clause-one : goal.returns-clause-one
returns-clause-one c = spells_once

pub returns-clause-unbroken : goal.returns-clause-unbroken
returns-clause-unbroken c = spells_unbroken
