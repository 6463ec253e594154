-- A step of a pattern, as a step upwards from the node that is matched (XSLT 2.0, 5.5.3).
use Rattle.std.specs.Prelude.{ℕ, List, [], ◌∷◌, ◌++◌, map, Bool, true, false, not, ◌&&◌}
use Rattle.std.specs.Prelude.{if◌then◌else◌}
use Rattle.std.specs.Prelude.{codes}
use Rattle.std.specs.List.{list_all}
use Rattle.xt_names.specs.declared.kinds.CompareOp.TheVariants.{Eq}
use Rattle.xt_types.specs.declared.axes.Axis.{Axis}
use Rattle.xt_types.specs.declared.axes.Axis.TheVariants as axis
use Rattle.xt_types.specs.declared.node_tests.NameTest.{NameTest}
use Rattle.xt_types.specs.declared.node_tests.NameTest.TheVariants.{Any, Uri, Local, Exact}
use Rattle.xt_types.specs.declared.node_tests.Test.{Test}
use Rattle.xt_types.specs.declared.node_tests.Test.TheVariants as test
use Rattle.xt_syntax.specs.declared.exprs.Expr.{Expr}
use Rattle.xt_syntax.specs.declared.exprs.Clause.TheViews.{roll-Expr, roll-Arm}
use Rattle.xt_syntax.specs.declared.exprs.Clause.TheOpen.{Str, Context, Or, If, General, Slash}
use Rattle.xt_syntax.specs.declared.exprs.Clause.TheOpen.{Step}
use Rattle.xt_syntax.specs.declared.exprs.Clause.TheOpen.{Filter, Intersect}
use Rattle.xt_syntax.specs.declared.patterns.PatternStep.{PatternStep}
use Rattle.quiet_eval.specs.QuietPlaces.Free.{is_place_free_expr}
use Rattle.match_patterns.specs.Patterns.{has_none}
use Rattle.carried_exprs.specs.Sights.{library_call}
use Rattle.pattern_paths.specs.Predicates.{unfailing}

abbrev pub step : Axis → Test → List Expr → Expr
step along wanted tests = roll-Expr (Step along wanted tests)

-- which node

-- `self::document-node()` and `self::attribute()`
abbrev pub self_document : Expr
self_document = step axis.Itself test.Doc []

abbrev pub self_attribute : Expr
self_attribute = step axis.Itself (test.Attr Any) []

-- `not(self::document-node() or self::attribute())`
abbrev pub may_be_child : Expr
may_be_child = library_call (codes "not") (roll-Expr (Or (self_document ∷ self_attribute ∷ [])) ∷
    [])

-- what a test lets pass that is no child
abbrev pub child_tests : Test → List Expr
child_tests test.Node = may_be_child ∷ []
child_tests test.Doc = may_be_child ∷ []
child_tests (test.Attr names) = may_be_child ∷ []
child_tests (test.Named names) = []
child_tests (test.Elem names) = []
child_tests test.Text = []
child_tests test.Comment = []
child_tests (test.Pi target) = []

-- `attribute(name)` or `attribute()`
abbrev pub attribute_of : NameTest → Test
attribute_of Any = test.Attr Any
attribute_of (Uri uri) = test.Attr Any
attribute_of (Local local) = test.Attr Any
attribute_of (Exact name) = test.Attr (Exact name)

-- `namespace-uri() = "uri"` and `local-name() = "local"`
abbrev pub has_text : List ℕ → List ℕ → Expr
has_text function text = roll-Expr (General Eq (library_call function []) (roll-Expr (Str text)))

abbrev pub name_tests : NameTest → List Expr
name_tests Any = []
name_tests (Uri uri) = has_text (codes "namespace-uri") uri ∷ []
name_tests (Local local) = has_text (codes "local-name") local ∷ []
name_tests (Exact name) = []

-- `false()`
abbrev pub never : Expr
never = library_call (codes "false") []

abbrev pub attribute_test : Test → Test
attribute_test (test.Named names) = attribute_of names
attribute_test (test.Attr names) = attribute_of names
attribute_test wanted = test.Attr Any

abbrev pub attribute_tests : Test → List Expr
attribute_tests (test.Named names) = name_tests names
attribute_tests (test.Attr names) = name_tests names
attribute_tests test.Node = []
attribute_tests test.Text = never ∷ []
attribute_tests test.Comment = never ∷ []
attribute_tests (test.Pi target) = never ∷ []
attribute_tests test.Doc = never ∷ []
attribute_tests (test.Elem names) = never ∷ []

-- the test of the step upwards, and what else tells the node
unfoldable pub kind_test : Axis → Test → Test
kind_test axis.Attribute wanted = attribute_test wanted
kind_test along wanted = wanted

unfoldable pub kind_tests : Axis → Test → List Expr
kind_tests axis.Attribute wanted = attribute_tests wanted
kind_tests axis.Child wanted = child_tests wanted
kind_tests along wanted = never ∷ []

-- predicates

abbrev pub parent : Expr
parent = step axis.Parent test.Node []

-- the nodes beside a node that may have no parent:
-- `if (parent::node()) then parent::node()/child::a else .`
abbrev pub beside : Axis → Test → Expr
beside along wanted =
    let there = roll-Expr (Slash parent (step along wanted [])) in
    roll-Expr (If (roll-Arm (record { test = parent; then = there }) ∷ []) (roll-Expr Context))

-- those that the predicates keep: `(..)[p]`, or where there is a parent `parent::node()/child::a[p]`
abbrev pub kept_beside : Bool → PatternStep → Expr
kept_beside true s = roll-Expr (Filter (beside s.axis s.test) (map unfailing s.quiet))
kept_beside false s = roll-Expr (Slash parent (step s.axis s.test (map unfailing s.quiet)))

-- whether the node is among them: `.. intersect .`
abbrev pub kept_among : Bool → PatternStep → Expr
kept_among alone s = roll-Expr (Intersect (kept_beside alone s) (roll-Expr Context))

-- predicates that look at no position stay as they are
abbrev pub predicates : Bool → PatternStep → List Expr
predicates alone s =
    if list_all is_place_free_expr s.quiet then map unfailing s.quiet else kept_among alone s ∷ []

abbrev pub upward_tests : Bool → PatternStep → List Expr
upward_tests alone s = kind_tests s.axis s.test ++ predicates alone s

abbrev pub upward : Bool → Axis → PatternStep → Expr
upward alone along s = step along (kind_test s.axis s.test) (upward_tests alone s)

-- steps, from the last one on

-- where the step before this one matches
unfoldable pub towards : Bool → Axis
towards true = axis.Ancestor
towards false = axis.Parent

-- the document at the front of a pattern that begins with `/` or `//`
abbrev pub to_document : Bool → Axis → List Expr
to_document true along = step along test.Doc [] ∷ []
to_document false along = []

-- before the first step of a pattern without `/` at its front stands nothing: its node may have no
-- parent
abbrev pub is_front : Bool → List PatternStep → Bool
is_front rooted before = not rooted && has_none before

abbrev pub upward_from : Bool → Axis → List PatternStep → List Expr
upward_from rooted along [] = to_document rooted along
upward_from rooted along (s ∷ before) =
    upward (is_front rooted before) along s ∷ upward_from rooted (towards s.deep) before
