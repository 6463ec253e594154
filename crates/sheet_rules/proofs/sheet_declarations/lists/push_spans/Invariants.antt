use Rattle.std.proofs.Common.{◌≡◌, ◌++◌, length, map}
use Rattle.sheet_rules.specs.SheetDeclarations.Declarations.{declared, pieces}
use Rattle.sheet_rules.proofs.sheet_declarations.lists.push_spans.Given as goal

abbrev pub invariant-loop-left : goal.invariant-loop-left
invariant-loop-left g l =
    l.all ++ map (declared l.level) (pieces l.modules l.left)
    ≡ l.initial.all ++ map (declared l.level) (pieces l.modules l.spans)

abbrev pub decreases-loop-left : goal.decreases-loop-left
decreases-loop-left g l = length l.left
