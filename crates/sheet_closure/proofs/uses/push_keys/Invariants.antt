use Rattle.std.proofs.Common.{◌≡◌, drop, map}
use Rattle.sheet_uses.specs.Exprs.{all_in}
use Rattle.sheet_closure.specs.Uses.{key_uses}
use Rattle.sheet_closure.proofs.uses.push_keys.Given as goal

abbrev pub invariant-loop-key : goal.invariant-loop-key
invariant-loop-key l =
    all_in (map key_uses (drop l.key-index l.all)) l.scope l.found
    ≡ all_in (map key_uses l.all) l.scope l.fn.found
