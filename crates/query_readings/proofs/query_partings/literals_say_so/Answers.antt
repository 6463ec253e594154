use Rattle.query_readings.proofs.QueryPartings.SaidLemmas.{says_so, so_says}
use Rattle.query_readings.proofs.query_partings.literals_say_so.Goals as goal

pub returns : goal.returns
returns c = λ text said. (says_so text said, so_says text said)
