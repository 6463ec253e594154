use Rattle.sheet_meaning.proofs.Depth.{deeper_same}
use Rattle.sheet_meaning.proofs.laws.deeper_runs_end_alike.Goals as goal

pub returns : goal.returns
returns c = deeper_same
