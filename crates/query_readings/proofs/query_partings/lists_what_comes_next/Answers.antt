use Rattle.query_readings.proofs.QueryPartings.NextLemmas.{end_told, told_end}
use Rattle.query_readings.proofs.QueryPartings.PartingLemmas.{read_listed, listed_read}
use Rattle.query_readings.proofs.query_partings.lists_what_comes_next.Goals as goal

pub returns-clause-next : goal.returns-clause-next
returns-clause-next c = λ p q t. (read_listed p q t, listed_read p q t)

pub returns-clause-over : goal.returns-clause-over
returns-clause-over c = λ p. (end_told p, told_end p)
