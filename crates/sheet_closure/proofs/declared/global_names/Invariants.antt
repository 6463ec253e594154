use Rattle.std.proofs.Common.{◌≡◌, ◌++◌, drop, map}
use Rattle.sheet_closure.specs.Declared.{global_name}
use Rattle.sheet_closure.proofs.declared.global_names.Given as goal

abbrev pub invariant-loop-global : goal.invariant-loop-global
invariant-loop-global l =
    l.names ++ map global_name (drop l.global-index l.global-items)
    ≡ map global_name l.global-items
