use Rattle.xpath_lex.proofs.ReadingLemmas.{tokens_one, faults_one, tokens_no_fault}
use Rattle.xpath_lex.proofs.laws.lists_are_one.Goals as goal

pub returns : goal.returns
returns c = record { one = tokens_one; places = faults_one; apart = tokens_no_fault }
