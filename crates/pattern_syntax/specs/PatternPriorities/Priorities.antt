-- Default priorities of patterns, in thousandths (XSLT 2.0, 6.4).
use Rattle.std.specs.Prelude.{ℕ, ℤ, pos, negsuc, List, [], ◌∷◌, Bool, true, false, Option, Some, None}
use Rattle.xt_types.specs.declared.node_tests.NameTest.{NameTest}
use Rattle.xt_types.specs.declared.node_tests.NameTest.TheVariants as names
use Rattle.xt_types.specs.declared.node_tests.Test.{Test}
use Rattle.xt_types.specs.declared.node_tests.Test.TheVariants as test
use Rattle.xt_syntax.specs.declared.exprs.Expr.{Expr}
use Rattle.xt_syntax.specs.declared.patterns.Pattern.{Pattern}
use Rattle.xt_syntax.specs.declared.patterns.PatternStep.{PatternStep}

-- -500, -250 and 500
abbrev pub low : ℤ
low = negsuc 499

abbrev pub of_half_a_name : ℤ
of_half_a_name = negsuc 249

abbrev pub high : ℤ
high = pos 500

-- a name, half of one, and `*`
unfoldable pub name_priority : NameTest → ℤ
name_priority names.Any = low
name_priority (names.Uri uri) = of_half_a_name
name_priority (names.Local local) = of_half_a_name
name_priority (names.Exact name) = pos 0

unfoldable pub target_priority : Option (List ℕ) → ℤ
target_priority None = low
target_priority (Some target) = pos 0

unfoldable pub test_priority : Test → ℤ
test_priority (test.Named wanted) = name_priority wanted
test_priority (test.Pi target) = target_priority target
test_priority wanted = low

unfoldable pub step_priority : Test → List Expr → ℤ
step_priority wanted [] = test_priority wanted
step_priority wanted (e ∷ more) = high

-- one step alone, and `/` alone; all else is high
unfoldable pub alone_priority : Bool → List PatternStep → ℤ
alone_priority true [] = low
alone_priority false [] = high
alone_priority false (s ∷ []) = step_priority s.test s.quiet
alone_priority true (s ∷ []) = high
alone_priority rooted (s ∷ t ∷ more) = high

abbrev pub priority_of : Pattern → ℤ
priority_of p = alone_priority p.rooted p.steps
