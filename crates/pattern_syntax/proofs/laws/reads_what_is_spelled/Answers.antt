use Rattle.pattern_syntax.proofs.ReadingLemmas.{spelled_reads, reads_spelled}
use Rattle.pattern_syntax.proofs.laws.reads_what_is_spelled.Goals as goal

pub returns : goal.returns
returns c = λ s k text o ps l. (spelled_reads s k text o ps l, reads_spelled s k text o ps l)
