use Rattle.std.proofs.Common.{refl}
use Rattle.expr_grammar.specs.Machine.{deep}
use Rattle.expr_reader.proofs.fronts.deep.Goals as goal

pub returns : goal.returns
unfolding deep
returns c = refl
