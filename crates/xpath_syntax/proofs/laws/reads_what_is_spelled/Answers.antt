use Rattle.xpath_syntax.proofs.ReadingLemmas.{spelled_reads, reads_spelled}
use Rattle.xpath_syntax.proofs.laws.reads_what_is_spelled.Goals as goal

pub returns : goal.returns
returns c = λ s k ts a. (spelled_reads s k ts a, reads_spelled s k ts a)
