use Rattle.std.proofs.Common.{◌≡◌, ◌++◌, drop, []}
use Rattle.name_rules.specs.Scopes.{with_names}
use Rattle.sheet_rules.specs.WideRules.Passing.{ordinary_names, required_names}
use Rattle.sheet_rules.proofs.wide_rules.passing.parameters_of.Given as goal

abbrev pub invariant-loop-param : goal.invariant-loop-param
invariant-loop-param g l = record {
  ordinary_is : with_names l.ordinary (ordinary_names (drop l.param-index l.params))
      ≡ with_names [] (ordinary_names l.params);
  required_is : l.required ++ required_names (drop l.param-index l.params) ≡ required_names l.params;
}
