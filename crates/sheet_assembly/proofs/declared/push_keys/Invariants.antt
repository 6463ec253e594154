use Rattle.std.proofs.Common.{◌≡◌, ◌++◌, drop, map}
use Rattle.sheet_assembly.specs.Named.{key_rule}
use Rattle.sheet_assembly.proofs.declared.push_keys.Given as goal

abbrev pub invariant-loop-key : goal.invariant-loop-key
invariant-loop-key l = l.made ++ map key_rule (drop l.key-index l.keys) ≡ l.initial.made ++ map key_rule l.keys
