use Rattle.std.proofs.Common.{◌≡◌, ◌≤◌, length, drop, reverse}
use Rattle.sheet_rules.specs.SheetDeclarations.Counts.{counted_of, seen_of}
use Rattle.sheet_rules.proofs.sheet_declarations.counts.counted.Given as goal

abbrev pub invariant-loop-left : goal.invariant-loop-left
invariant-loop-left g l = record {
  within : l.left ≤ length l.declarations;
  seen_is : l.seen ≡ seen_of (drop l.left l.declarations);
  marks_are : reverse l.marks.items ≡ counted_of (drop l.left l.declarations);
}

abbrev pub decreases-loop-left : goal.decreases-loop-left
decreases-loop-left g l = l.left
