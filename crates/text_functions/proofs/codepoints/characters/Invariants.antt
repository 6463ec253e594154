use Rattle.std.proofs.Common.{◌≡◌, drop}
use Rattle.text_functions.specs.Joins.{in_turn}
use Rattle.text_functions.specs.TextFunctions.{one_character}
use Rattle.text_functions.proofs.JoinLemmas.{onto}
use Rattle.text_functions.proofs.codepoints.characters.Given as goal

abbrev pub invariant-loop-number : goal.invariant-loop-number
invariant-loop-number l = onto l.made (in_turn one_character (drop l.number-index l.numbers)) ≡ in_turn one_character l.numbers
