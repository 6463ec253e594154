use Rattle.std.proofs.Common.{◌≡◌, drop}
use Rattle.text_functions.specs.Joins.{in_turn, argument_text}
use Rattle.text_functions.proofs.JoinLemmas.{onto}
use Rattle.text_functions.proofs.joins.concatenated.Given as goal

abbrev pub invariant-loop-argument : goal.invariant-loop-argument
invariant-loop-argument l = onto l.made (in_turn argument_text (drop l.argument-index l.arguments)) ≡ in_turn argument_text l.arguments
