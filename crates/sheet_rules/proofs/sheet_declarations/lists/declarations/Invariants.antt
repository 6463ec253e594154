use Rattle.std.proofs.Common.{◌≡◌, ◌++◌, ◌+◌, length}
use Rattle.sheet_rules.specs.SheetDeclarations.Declarations.{declarations_from, declarations_of}
use Rattle.sheet_rules.proofs.sheet_declarations.lists.declarations.Given as goal

abbrev pub invariant-loop-left : goal.invariant-loop-left
invariant-loop-left g l = record {
  all_is : l.all ++ declarations_from l.modules l.level l.left ≡ declarations_of l.modules l.levels;
  level_is : l.level + length l.left ≡ 1 + length l.levels;
}

abbrev pub decreases-loop-left : goal.decreases-loop-left
decreases-loop-left g l = length l.left
