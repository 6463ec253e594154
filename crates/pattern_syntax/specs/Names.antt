-- The pattern that is one name, or another test of names (XSLT 2.0, 5.5.2).
use Rattle.std.specs.Prelude.{ℕ, List, [], ◌∷◌, Bool, false}
use Rattle.xt_types.specs.declared.axes.Axis.TheVariants as axis
use Rattle.xt_types.specs.declared.node_tests.Test.{Test}
use Rattle.xt_types.specs.declared.node_tests.Test.TheVariants as test
use Rattle.xt_types.specs.declared.node_tests.NameTest.TheVariants as name
use Rattle.xt_syntax.specs.declared.patterns.Pattern.{Pattern}
use Rattle.xt_syntax.specs.declared.patterns.PatternStep.{PatternStep}
use Rattle.expr_keys.specs.Classes.{fits}
use Rattle.expr_keys.specs.declared.productions.Class.TheVariants.{NameTest as name_test}
use Rattle.expr_keys.specs.declared.productions.Production.TheVariants.{TestStep as test_step}
use Rattle.expr_terms.specs.declared.raws.Raw.{Raw}
use Rattle.expr_terms.specs.declared.raws.Raw.TheVariants.{Leaf as leaf, Node as node}
use Rattle.expr_keys.specs.declared.tokens.Token.{Token}
use Rattle.expr_resolve.specs.declared.setting.Setting.{Setting}

-- the test for an element of this name, where names without prefix have the uri
abbrev pub named : List ℕ → List ℕ → Test
named uri local = test.Named (name.Exact (record { uri = uri; local = local }))

-- the step to the children that pass the test
abbrev pub child_step : Test → PatternStep
child_step wanted = record { axis = axis.Child; test = wanted; quiet = []; deep = false }

-- the alternative that has this step alone
abbrev pub alone : PatternStep → Pattern
alone step = record { rooted = false; steps = step ∷ [] }

-- what a name means
abbrev pub name_meant : Setting → List ℕ → List Pattern
name_meant s local = alone (child_step (named s.prefixes.element_default local)) ∷ []

-- one test of names, and no more
abbrev pub is_lone_test : List Token → Bool
is_lone_test [] = false
is_lone_test (t ∷ []) = fits name_test t
is_lone_test (t ∷ u ∷ ts) = false

-- the step that has this test alone
abbrev pub lone_step : Token → Raw
lone_step t = node test_step (leaf t ∷ [])
