use Rattle.std.proofs.Common.{◌∙◌}
use Rattle.text_functions.specs.TextFunctions.{one_character}
use Rattle.text_functions.proofs.JoinLemmas.{begins, goes_on, breaks_off, ends}
use Rattle.text_functions.proofs.codepoints.characters.Goals as goal

pub loop-number-init : goal.loop-number-init
loop-number-init c = begins one_character c.args.numbers.now _ c.new-made.ensures

pub loop-number-preserved : goal.loop-number-preserved
loop-number-preserved c =
    goes_on one_character c.args.numbers.now c.loop-number.number-index c.number-item.result _ _ c.loop-number-test.true c.number-item.is c.in-Ok.ensures ∙ c.loop-number.invariant

pub returns-in-Err : goal.returns-in-Err
returns-in-Err c =
    breaks_off one_character c.args.numbers.now c.loop-number.number-index c.number-item.result c.loop-number.made c.put_character.new.made c.in-Err.fault c.loop-number-test.true c.number-item.is c.in-Err.ensures c.loop-number.invariant

pub returns : goal.returns
returns c = rw c.in_ok-finish.ensures (ends one_character c.args.numbers.now c.loop-number.number-index c.loop-number.made c.loop-number-test.false c.loop-number.invariant)
