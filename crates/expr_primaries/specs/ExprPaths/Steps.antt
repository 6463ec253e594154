-- What steps mean (XPath 2.0, 3.2.1).
use Rattle.std.specs.Prelude.{ℕ, List, [], ◌∷◌, Option, Some, None}
use Rattle.xt_names.specs.declared.names.Binding.{Binding}
use Rattle.xt_types.specs.declared.axes.Axis.{Axis}
use Rattle.xt_types.specs.declared.axes.Axis.TheVariants as axis
use Rattle.xt_types.specs.declared.node_tests.Test.{Test}
use Rattle.xt_types.specs.declared.node_tests.Test.TheVariants as test
use Rattle.xt_types.specs.declared.node_tests.NameTest.{NameTest}
use Rattle.xt_types.specs.declared.node_tests.NameTest.TheVariants as name
use Rattle.xt_syntax.specs.declared.exprs.Expr.{Expr}
use Rattle.xt_syntax.specs.declared.exprs.Expr.TheVariants as expr
use Rattle.expr_rules.specs.ExprNames.Names.{default_in}
use Rattle.expr_keys.specs.declared.keys.Key.{Key}
use Rattle.expr_keys.specs.declared.keys.Key.TheVariants as key
use Rattle.expr_keys.specs.declared.tokens.Token.{Token}
use Rattle.expr_rules.specs.declared.expr_meant.meant.Meant.{Meant}
use Rattle.expr_rules.specs.declared.expr_meant.meant.Meant.TheVariants as meant
use Rattle.expr_rules.specs.ExprMeant.Parts.{exprs_of, key_of}
use Rattle.expr_rules.specs.ExprMeant.Names.{target_in}
use Rattle.expr_rules.specs.Known.{name_test_of}

-- the axis of the word
unfoldable pub axis_of : Key → Axis
axis_of key.AncestorWord = axis.Ancestor
axis_of key.AncestorOrSelfWord = axis.AncestorOrSelf
axis_of key.AttributeWord = axis.Attribute
axis_of key.DescendantWord = axis.Descendant
axis_of key.DescendantOrSelfWord = axis.DescendantOrSelf
axis_of key.FollowingWord = axis.Following
axis_of key.FollowingSiblingWord = axis.FollowingSibling
axis_of key.ParentWord = axis.Parent
axis_of key.PrecedingWord = axis.Preceding
axis_of key.PrecedingSiblingWord = axis.PrecedingSibling
axis_of key.SelfWord = axis.Itself
axis_of _ = axis.Child

-- a name without a prefix is that of an element with the default uri, but not on the axis of attributes
unfoldable pub defaulted : List ℕ → Axis → NameTest → NameTest
defaulted default axis.Attribute name = name
defaulted default _ name = default_in default name

-- the test on the axis
unfoldable pub test_on : List Binding → List ℕ → Axis → Meant → Test
test_on bound default on (meant.Kind kind) = kind
test_on bound default on m = test.Named (defaulted default on (name_test_of bound m))

-- without an axis a test for attributes is on theirs, and any other on that of children
unfoldable pub axis_for_test : Test → Axis
axis_for_test (test.Attr name) = axis.Attribute
axis_for_test _ = axis.Child

unfoldable pub axis_for : Meant → Axis
axis_for (meant.Kind kind) = axis_for_test kind
axis_for _ = axis.Child

abbrev pub step_on : List Binding → List ℕ → Axis → List Meant → Expr
step_on bound default on [] = expr.Step on test.Node []
step_on bound default on (m ∷ ms) = expr.Step on (test_on bound default on m) (exprs_of ms)

-- axis::test[p]..
abbrev pub axis_step : List Binding → List ℕ → List Meant → Expr
axis_step bound default [] = expr.Step axis.Child test.Node []
axis_step bound default (m ∷ ms) = step_on bound default (axis_of (key_of m)) ms

-- @test[p]..
abbrev pub attribute_step : List Binding → List Meant → Expr
attribute_step bound ms = step_on bound [] axis.Attribute ms

-- test[p]..
abbrev pub test_step : List Binding → List ℕ → List Meant → Expr
test_step bound default [] = expr.Step axis.Child test.Node []
test_step bound default (m ∷ ms) = step_on bound default (axis_for m) (m ∷ ms)

-- ..[p]..
abbrev pub parent_step : List Meant → Expr
parent_step ms = expr.Step axis.Parent test.Node (exprs_of ms)

-- node(), text(), comment(), document-node()
unfoldable pub plain_kind_of : Key → Test
plain_kind_of key.TextWord = test.Text
plain_kind_of key.CommentWord = test.Comment
plain_kind_of key.DocumentNodeWord = test.Doc
plain_kind_of _ = test.Node

abbrev pub plain_kind : List Meant → Test
plain_kind [] = test.Node
plain_kind (m ∷ ms) = plain_kind_of (key_of m)

unfoldable pub target_of : Meant → Option (List ℕ)
target_of (meant.Token t) = Some (target_in t)
target_of _ = None

-- processing-instruction(target)
abbrev pub pi_kind : List Meant → Test
pi_kind [] = test.Pi None
pi_kind (m ∷ ms) = test.Pi (target_of m)

-- an element's name without a prefix has the default uri
unfoldable pub named_kind_of : List ℕ → Key → NameTest → Test
named_kind_of default key.ElementWord name = test.Elem (default_in default name)
named_kind_of default _ name = test.Attr name

abbrev pub kind_name : List Binding → List Meant → NameTest
kind_name bound [] = name.Any
kind_name bound (m ∷ ms) = name_test_of bound m

-- element(name), attribute(name)
abbrev pub named_kind : List Binding → List ℕ → List Meant → Test
named_kind bound default [] = test.Node
named_kind bound default (m ∷ ms) = named_kind_of default (key_of m) (kind_name bound ms)
