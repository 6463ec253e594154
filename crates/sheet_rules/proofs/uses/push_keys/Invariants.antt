use Rattle.std.proofs.Common.{◌≡◌, drop, map}
use Rattle.sheet_uses.specs.Exprs.{all_in}
use Rattle.sheet_rules.specs.Uses.{use_of_key}
use Rattle.sheet_rules.proofs.uses.push_keys.Given as goal

abbrev pub invariant-loop-key : goal.invariant-loop-key
invariant-loop-key l =
    all_in (map use_of_key (drop l.key-index l.keys)) l.scope l.found
    ≡ all_in (map use_of_key l.keys) l.scope l.fn.found
