use Rattle.item_functions.proofs.NumberFunctions.SumLemmas.{ranged_ok, ranged_err}
use Rattle.item_functions.proofs.number_functions.sums.ranged.Goals as goal

pub returns-in-Ok : goal.returns-in-Ok
returns-in-Ok c = ranged_ok c.args.total c.in-Ok.number c.ranges.total c.in-Ok.ensures

pub returns-in-Err : goal.returns-in-Err
returns-in-Err c = ranged_err c.args.total c.ranges.total c.in-Err.ensures
