use Rattle.std.proofs.Common.{◌≡◌, drop}
use Rattle.std.specs.List.{list_all}
use Rattle.sheet_closure.specs.Declared.{is_declared}
use Rattle.sheet_closure.proofs.declared.uses_are_declared.Given as goal

abbrev pub invariant-loop-one : goal.invariant-loop-one
invariant-loop-one l =
    list_all (is_declared l.names l.sheet) (drop l.one-index l.uses)
    ≡ list_all (is_declared l.names l.sheet) l.uses
