use Rattle.xdm_items.specs.FunctionArguments.Arguments.{atom_arguments}
use Rattle.xdm_items.proofs.function_arguments.conversions.are_atoms.Goals as goal

pub returns-clause-stay : goal.returns-clause-stay
unfolding atom_arguments
returns-clause-stay c = c.is_atomic.ensures.stay
