use Rattle.std.proofs.Common.{◌∙◌}
use Rattle.text_functions.specs.Joins.{argument_text}
use Rattle.text_functions.proofs.JoinLemmas.{begins, goes_on, breaks_off, ends}
use Rattle.text_functions.proofs.joins.concatenated.Goals as goal

pub loop-argument-init : goal.loop-argument-init
loop-argument-init c = begins argument_text c.args.arguments.now _ c.new-made.ensures

pub loop-argument-preserved : goal.loop-argument-preserved
loop-argument-preserved c =
    goes_on argument_text c.args.arguments.now c.loop-argument.argument-index c.argument-item.result _ _ c.loop-argument-test.true c.argument-item.is c.in-Ok.ensures ∙ c.loop-argument.invariant

pub returns-in-Err : goal.returns-in-Err
returns-in-Err c =
    breaks_off argument_text c.args.arguments.now c.loop-argument.argument-index c.argument-item.result c.loop-argument.made c.put_argument.new.made c.in-Err.fault c.loop-argument-test.true c.argument-item.is c.in-Err.ensures c.loop-argument.invariant

pub returns : goal.returns
returns c = rw c.in_ok-finish.ensures (ends argument_text c.args.arguments.now c.loop-argument.argument-index c.loop-argument.made c.loop-argument-test.false c.loop-argument.invariant)
