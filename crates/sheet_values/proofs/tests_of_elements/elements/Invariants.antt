use Rattle.std.proofs.Common.{◌≡◌, ◌++◌, length}
use Rattle.sheet_values.specs.Elements.{elements_broken, elements_meant}
use Rattle.sheet_values.proofs.tests_of_elements.elements.Given as goal

abbrev pub invariant-loop-left : goal.invariant-loop-left
invariant-loop-left l = record {
  broken : elements_broken l.bound l.left ≡ elements_broken l.bound l.words;
  meant : l.made ++ elements_meant l.bound l.left ≡ elements_meant l.bound l.words;
}

abbrev pub decreases-loop-left : goal.decreases-loop-left
decreases-loop-left l = length l.left
