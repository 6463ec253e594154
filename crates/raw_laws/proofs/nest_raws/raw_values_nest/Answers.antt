use Rattle.raw_laws.proofs.NestRaws.Forms.{printable_within}
use Rattle.raw_laws.proofs.nest_raws.raw_values_nest.Goals as goal

pub returns : goal.returns
returns c = λ p e h. (printable_within p e h).below
