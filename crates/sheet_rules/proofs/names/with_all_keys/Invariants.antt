use Rattle.std.proofs.Common.{◌≡◌, drop, map}
use Rattle.name_rules.specs.Scopes.{with_names}
use Rattle.sheet_rules.specs.Names.{key_name}
use Rattle.sheet_rules.proofs.names.with_all_keys.Given as goal

abbrev pub invariant-loop-key : goal.invariant-loop-key
invariant-loop-key g l =
    with_names l.all (map key_name (drop l.key-index l.keys)) ≡ with_names l.fn.scope (map key_name l.keys)
