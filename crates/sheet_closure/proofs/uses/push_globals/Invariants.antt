use Rattle.std.proofs.Common.{◌≡◌, drop, map}
use Rattle.sheet_uses.specs.Exprs.{all_in}
use Rattle.sheet_closure.specs.Uses.{global_uses}
use Rattle.sheet_closure.proofs.uses.push_globals.Given as goal

abbrev pub invariant-loop-global : goal.invariant-loop-global
invariant-loop-global l =
    all_in (map global_uses (drop l.global-index l.all)) l.scope l.found
    ≡ all_in (map global_uses l.all) l.scope l.fn.found
