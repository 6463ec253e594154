use Rattle.std.proofs.Common.{◌≡◌, ◌++◌, drop, map}
use Rattle.sheet_rules.specs.SheetDeclarations.Declarations.{declared}
use Rattle.sheet_rules.proofs.sheet_declarations.lists.push_parts.Given as goal

abbrev pub invariant-loop-part : goal.invariant-loop-part
invariant-loop-part g l =
    l.all ++ map (declared l.level) (drop l.part-index l.parts)
    ≡ l.initial.all ++ map (declared l.level) l.parts
