use Rattle.std.proofs.Common.{Ok}
use Rattle.query_readings.proofs.AnswerLemmas.{parsed_gives, gives_parsed}
use Rattle.query_readings.proofs.laws.reads_what_is_spelled.Goals as goal

pub returns : goal.returns
returns c = λ k text q. (parsed_gives k text (Ok q), gives_parsed k text (Ok q))
