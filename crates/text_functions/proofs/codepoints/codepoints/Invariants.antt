use Rattle.std.proofs.Common.{◌≡◌, map}
use Rattle.text_functions.specs.TextFunctions.{as_integer}
use Rattle.text_functions.proofs.codepoints.codepoints.Given as goal

abbrev pub invariant-loop-c : goal.invariant-loop-c
invariant-loop-c l = l.numbers ≡ map as_integer l.yielded
