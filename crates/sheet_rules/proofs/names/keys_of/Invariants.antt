use Rattle.std.proofs.Common.{◌≡◌, drop, []}
use Rattle.sheet_rules.specs.Names.{with_keys}
use Rattle.sheet_rules.proofs.names.keys_of.Given as goal

abbrev pub invariant-loop-one : goal.invariant-loop-one
invariant-loop-one g l =
    with_keys l.scope (drop l.one-index l.declarations) ≡ with_keys [] l.declarations
