use Rattle.std.proofs.Common.{◌≡◌, [], drop, map}
use Rattle.name_rules.specs.Scopes.{with_names}
use Rattle.sheet_closure.specs.Declared.{key_name}
use Rattle.sheet_closure.proofs.declared.declared_keys.Given as goal

abbrev pub invariant-loop-key : goal.invariant-loop-key
invariant-loop-key l =
    with_names l.scope (map key_name (drop l.key-index l.keys))
    ≡ with_names [] (map key_name l.keys)
