-- Which family a production is of, and what it means from what its parts mean.
use Rattle.std.specs.Prelude.{List, [], Bool, true, false}
use Rattle.xt_names.specs.declared.codes.Code.{Code}
use Rattle.expr_keys.specs.declared.productions.Production.{Production}
use Rattle.expr_keys.specs.declared.productions.Production.TheVariants as production
use Rattle.expr_primaries.specs.ExprRules.declared.expr_meant.meant.Meant.{Meant}
use Rattle.expr_primaries.specs.ExprRules.Rules.{own_broken, end_broken, doubles_broken}
use Rattle.expr_primaries.specs.ExprPaths.Table.{path_value}
use Rattle.expr_control.specs.Table.{control_value}
use Rattle.expr_primaries.specs.ExprElements.Table.{element_value}
use Rattle.expr_resolve.specs.declared.setting.Setting.{Setting}
use Rattle.expr_resolve.specs.declared.families.Family.{Family}
use Rattle.expr_resolve.specs.declared.families.Family.TheVariants.{Paths as paths, Control as control, Elements as elements}

unfoldable pub family_of : Production → Family
family_of production.Rooted = paths
family_of production.RootSteps = paths
family_of production.RootedDeep = paths
family_of production.Steps = paths
family_of production.StepAfter = paths
family_of production.DeepAfter = paths
family_of production.AxisStep = paths
family_of production.AttributeStep = paths
family_of production.TestStep = paths
family_of production.ParentStep = paths
family_of production.FilterStep = paths
family_of production.PlainKind = paths
family_of production.PiKind = paths
family_of production.NamedKind = paths
family_of production.Number = paths
family_of production.Literal = paths
family_of production.Variable = paths
family_of production.Parens = paths
family_of production.Context = paths
family_of production.Call = paths
family_of production.ArgumentList = paths
family_of production.Computed = elements
family_of production.Constructed = elements
family_of production.PiConstructed = elements
family_of production.Enclosing = elements
family_of production.DirectElement = elements
family_of production.ChildElement = elements
family_of production.ElementContent = elements
family_of production.EmptyElement = elements
family_of production.AttributeValue = elements
family_of production.PartEnclosed = elements
family_of production.ItemEnclosed = elements
family_of _ = control

unfoldable pub value_in : Family → Setting → Production → List Meant → Meant
value_in paths s p ms = path_value s.prefixes p ms
value_in control s p ms = control_value s.prefixes p ms
value_in elements s p ms = element_value s.prefixes s.strip p ms

-- what the production means
abbrev pub act : Setting → Production → List Meant → Meant
act s p ms = value_in (family_of p) s p ms

-- the rules that a part breaks where it stands
abbrev pub own : Setting → Production → Bool → Meant → List Code
own s p first m = own_broken s.prefixes.bound p first m

-- the rules that all parts break together
abbrev pub end : Setting → Production → List Meant → List Code
end s p ms = end_broken s.prefixes.bound s.prefixes.function_default p ms

-- the parts stand in reverse order
unfoldable pub is_chain : Production → Bool
is_chain production.IfExpr = true
is_chain _ = false

unfoldable pub is_tag : Production → Bool
is_tag production.DirectElement = true
is_tag production.ChildElement = true
is_tag _ = false

-- the rules that the parts so far break, with the last one to come: after the attributes stands the content
unfoldable pub before_last : Bool → Bool → List Meant → List Code
before_last true true ms = doubles_broken ms
before_last _ _ ms = []
