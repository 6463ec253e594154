use Rattle.form_values.proofs.Operations.{operation_law}
use Rattle.form_values.proofs.laws.an_operation_gives_the_value_of_its_operands.Goals as goal

pub returns : goal.returns
returns c = operation_law
