use Rattle.std.proofs.Common.{◌≡◌, ◌++◌, drop}
use Rattle.sheet_expressions.specs.SheetNames.Uses.{broken_uses}
use Rattle.sheet_expressions.proofs.sheet_names.uses.push_broken_uses.Given as goal

abbrev pub invariant-loop-one : goal.invariant-loop-one
invariant-loop-one l =
    l.codes ++ broken_uses l.names (drop l.one-index l.uses) ≡ l.fn.codes ++ broken_uses l.names l.uses
