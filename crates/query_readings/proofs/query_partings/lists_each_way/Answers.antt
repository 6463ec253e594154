use Rattle.query_readings.proofs.QueryPartings.PartingLemmas.{parted_listed, listed_parted}
use Rattle.query_readings.proofs.query_partings.lists_each_way.Goals as goal

pub returns : goal.returns
returns c = λ text ts. (parted_listed text ts, listed_parted text ts)
