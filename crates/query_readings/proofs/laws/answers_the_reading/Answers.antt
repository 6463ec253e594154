use Rattle.query_readings.proofs.AnswerLemmas.{parsed_gives, gives_parsed}
use Rattle.query_readings.proofs.laws.answers_the_reading.Goals as goal

pub returns : goal.returns
returns c = λ k text r. (parsed_gives k text r, gives_parsed k text r)
