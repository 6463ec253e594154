use Rattle.query_readings.proofs.WrittenLemmas.{spelled_read, read_spelled}
use Rattle.query_readings.proofs.laws.reads_what_is_written.Goals as goal

pub returns : goal.returns
returns c = λ text raw. (spelled_read text raw, read_spelled text raw)
