use Rattle.std.proofs.Common.{◌≡◌, ◌++◌, length}
use Rattle.xt_names.specs.declared.codes.SheetStaticCode.TheVariants.{XTSE0550}
use Rattle.sheet_values.specs.Rules.{each}
use Rattle.sheet_values.specs.Modes.{mode_broken, modes_in}
use Rattle.sheet_values.proofs.modes.mode_names.Given as goal

abbrev pub invariant-loop-left : goal.invariant-loop-left
invariant-loop-left l = record {
  broken : each (mode_broken XTSE0550 l.bound) l.left ≡ each (mode_broken XTSE0550 l.bound) l.words;
  meant : l.made ++ modes_in l.bound l.left ≡ modes_in l.bound l.words;
}

abbrev pub decreases-loop-left : goal.decreases-loop-left
decreases-loop-left l = length l.left
