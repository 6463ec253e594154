use Rattle.std.proofs.Common.{◌≡◌, drop}
use Rattle.std.specs.List.{list_all}
use Rattle.name_rules.specs.Scopes.{has_name}
use Rattle.sheet_rules.proofs.wide_rules.passing.has_all.Given as goal

abbrev pub invariant-loop-name : goal.invariant-loop-name
invariant-loop-name l =
    list_all (has_name l.scope) (drop l.name-index l.names) ≡ list_all (has_name l.scope) l.names
