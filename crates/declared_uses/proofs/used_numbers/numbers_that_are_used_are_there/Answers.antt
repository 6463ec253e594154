use Rattle.declared_uses.proofs.UsedNumbers.Loaded.{loaded_default, loaded_modes, loaded_numbers}
use Rattle.declared_uses.proofs.used_numbers.numbers_that_are_used_are_there.Goals as goal

pub returns-clause-uses : goal.returns-clause-uses
returns-clause-uses c = λ files reads name l i e. loaded_numbers files reads name l i e

pub returns-clause-rules : goal.returns-clause-rules
returns-clause-rules c = λ files reads name l i e. loaded_modes files reads name l i e

pub returns-clause-default : goal.returns-clause-default
returns-clause-default c = loaded_default
