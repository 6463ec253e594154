use Rattle.std.proofs.Common.{rules}
use Rattle.sheet_table.proofs.Turns.{found_turn, none_turn, ascii_turn}
use Rattle.sheet_table.proofs.rules.choices_fault.Goals as goal

pub returns-in-Some : goal.returns-in-Some
returns-in-Some c = found_turn c.args.attributes.now c.args.choices.now c.loop-choice.choice-index _ c.in-Some.code c.value_fault.result c.loop-choice.invariant.same c.loop-choice-test.true c.value_fault.ensures c.in-Some.is

pub loop-choice-preserved : goal.loop-choice-preserved
loop-choice-preserved c = record {
  same = none_turn c.args.attributes.now c.args.choices.now c.loop-choice.choice-index _ c.value_fault.result c.loop-choice.invariant.same c.loop-choice-test.true c.value_fault.ensures c.in-None.is;
  ascii = search (rules, ascii_turn);
}
