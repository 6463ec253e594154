use Rattle.std.proofs.Common.{◌≡◌, drop}
use Rattle.name_rules.specs.Scopes.{are_new, names_differ}
use Rattle.name_rules.proofs.scopes.names_differ.Given as goal

abbrev pub invariant-loop-name : goal.invariant-loop-name
invariant-loop-name l = are_new l.seen (drop l.name-index l.name-items) ≡ names_differ l.name-items
