use Rattle.carried_exprs.proofs.Regularity.{regular_carried}
use Rattle.carried_exprs.proofs.laws.carried_expressions_are_regular.Goals as goal

pub returns : goal.returns
returns c = λ w local e h s. (regular_carried w local e s).regular h
