use Rattle.expr_raws.proofs.PathRaws.Paths.{slashed_means}
use Rattle.expr_raws.proofs.path_raws.paths_mean.Goals as goal

pub returns : goal.returns
returns c = slashed_means
