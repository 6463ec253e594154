use Rattle.translation_limits.proofs.LeafSheets.{closed_keep}
use Rattle.translation_limits.proofs.laws.closed_stylesheets_have_queries_within_the_limits.Goals as goal

pub returns : goal.returns
returns c = closed_keep
