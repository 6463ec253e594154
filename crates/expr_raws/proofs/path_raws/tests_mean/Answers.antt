use Rattle.expr_raws.proofs.PathRaws.Paths.{test_means}
use Rattle.expr_raws.proofs.path_raws.tests_mean.Goals as goal

pub returns : goal.returns
returns c = test_means
