use Rattle.std.proofs.Common.{◌≡◌, drop}
use Rattle.name_rules.specs.Scopes.{with_names}
use Rattle.name_rules.proofs.scopes.VariableScope.with_all.Given as goal

abbrev pub invariant-loop-name : goal.invariant-loop-name
invariant-loop-name l = with_names l.scope (drop l.name-index l.name-items) ≡ with_names l.fn.self l.name-items
