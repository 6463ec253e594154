use Rattle.std.proofs.Common.{◌≡◌, false}
use Rattle.text_operations.specs.Spaces.{collapsed}
use Rattle.text_operations.proofs.SpaceLemmas.{white_before}
use Rattle.text_operations.proofs.spaces.normalized.Given as goal

abbrev pub invariant-loop-c : goal.invariant-loop-c
invariant-loop-c l = record { made_is : l.made ≡ collapsed false l.yielded; after_is : l.after_white ≡ white_before false l.yielded }
