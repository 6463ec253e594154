use Rattle.std.proofs.Common.{arith}
use Rattle.std.proofs.lemmas.Grind.{common_steps}
use Rattle.std.proofs.lemmas.Str.{chars-nil}
use Rattle.xdm_items.specs.FunctionArguments.Arguments.{text_or_empty_argument}
use Rattle.xdm_items.proofs.function_arguments.arguments.text_or_empty.Goals as goal

pub returns-in_ok-make-in-None : goal.returns-in_ok-make-in-None
unfolding text_or_empty_argument
returns-in_ok-make-in-None c = grind (arith, common_steps, chars-nil)
