-- Alternatives of patterns, as the texts of patterns spell them (XSLT 2.0, 5.5.2).
use Rattle.std.specs.Prelude.{ℕ, List, [], ◌∷◌, Bool, true, false, not, ◌&&◌, ◌||◌, nat_le}
use Rattle.std.specs.Prelude.{Option, Some, None}
use Rattle.std.specs.List.{list_all}
use Rattle.xt_names.specs.Allowed.{is_empty_text}
use Rattle.xt_names.specs.Classes.{is_ncname_text}
use Rattle.xt_types.specs.declared.axes.Axis.{Axis}
use Rattle.xt_types.specs.declared.axes.Axis.TheVariants as axis
use Rattle.xt_types.specs.declared.node_tests.NameTest.{NameTest}
use Rattle.xt_types.specs.declared.node_tests.NameTest.TheVariants as name
use Rattle.xt_types.specs.declared.node_tests.Test.{Test}
use Rattle.xt_types.specs.declared.node_tests.Test.TheVariants as test
use Rattle.xt_forms.specs.Nest.{pattern_nest_of}
use Rattle.xt_syntax.specs.declared.patterns.Pattern.{Pattern}
use Rattle.xt_syntax.specs.declared.patterns.PatternStep.{PatternStep}
use Rattle.pattern_forms.specs.QuietMeaning.Quietly.{is_pattern_predicate}

unfoldable pub is_pattern_axis : Axis → Bool
is_pattern_axis axis.Child = true
is_pattern_axis axis.Attribute = true
is_pattern_axis axis.Descendant = false
is_pattern_axis axis.Itself = false
is_pattern_axis axis.DescendantOrSelf = false
is_pattern_axis axis.FollowingSibling = false
is_pattern_axis axis.Following = false
is_pattern_axis axis.Parent = false
is_pattern_axis axis.Ancestor = false
is_pattern_axis axis.PrecedingSibling = false
is_pattern_axis axis.Preceding = false
is_pattern_axis axis.AncestorOrSelf = false

-- `p:*` has a uri, and `*:n` a name
unfoldable pub is_pattern_name : NameTest → Bool
is_pattern_name name.Any = true
is_pattern_name (name.Uri uri) = not (is_empty_text uri)
is_pattern_name (name.Local local) = is_ncname_text local
is_pattern_name (name.Exact n) = true

-- the target of processing-instruction() is a name
unfoldable pub is_pattern_target : Option (List ℕ) → Bool
is_pattern_target None = true
is_pattern_target (Some target) = is_ncname_text target

-- names, node(), text(), comment() and processing-instruction()
unfoldable pub is_pattern_test : Test → Bool
is_pattern_test (test.Named n) = is_pattern_name n
is_pattern_test test.Node = true
is_pattern_test test.Text = true
is_pattern_test test.Comment = true
is_pattern_test (test.Pi target) = is_pattern_target target
is_pattern_test test.Doc = false
is_pattern_test (test.Elem n) = false
is_pattern_test (test.Attr n) = false

unfoldable pub is_pattern_step : PatternStep → Bool
is_pattern_step s =
    is_pattern_axis s.axis && (is_pattern_test s.test && list_all is_pattern_predicate s.quiet)

-- `/` stands alone, and `//` comes before the first step only at the front of the whole
unfoldable pub begins_well : Bool → List PatternStep → Bool
begins_well rooted [] = rooted
begins_well rooted (s ∷ steps) = rooted || not s.deep

unfoldable pub is_alternative : Pattern → Bool
is_alternative p =
    begins_well p.rooted p.steps
    && (list_all is_pattern_step p.steps && nat_le (pattern_nest_of p) 40)
