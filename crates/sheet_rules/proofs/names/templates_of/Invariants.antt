use Rattle.std.proofs.Common.{◌≡◌, drop, []}
use Rattle.name_rules.specs.Scopes.{with_names}
use Rattle.sheet_rules.specs.Names.{template_names}
use Rattle.sheet_rules.proofs.names.templates_of.Given as goal

abbrev pub invariant-loop-one : goal.invariant-loop-one
invariant-loop-one g l =
    with_names l.scope (template_names (drop l.one-index l.declarations))
    ≡ with_names [] (template_names l.declarations)
