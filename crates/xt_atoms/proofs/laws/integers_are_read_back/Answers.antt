use Rattle.xt_atoms.proofs.ReadBack.{cast_back}
use Rattle.xt_atoms.proofs.laws.integers_are_read_back.Goals as goal

pub returns : goal.returns
returns c = λ n f. cast_back n f
