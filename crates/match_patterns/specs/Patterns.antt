-- Which nodes a pattern matches (XSLT 2.0, 5.5.3).
use Rattle.std.specs.Prelude.{ℕ, List, [], ◌∷◌, filter, reverse, Bool, true, false, not, ◌&&◌, ◌||◌, if◌then◌else◌, Option, Some, None, is_some, option_map}
use Rattle.std.specs.List.{list_all, list_any}
use Rattle.std.specs.Option.{option_to_list}
use Rattle.xt_types.specs.declared.axes.Axis.{Axis}
use Rattle.xt_types.specs.declared.axes.Axis.TheVariants as axis
use Rattle.xt_types.specs.declared.node_tests.Test.TheVariants as test
use Rattle.xt_tree.specs.declared.kinds.Kind.{Kind}
use Rattle.xt_tree.specs.declared.kinds.Kind.TheVariants as kind
use Rattle.xt_tree.specs.Kinds.{kind_of}
use Rattle.xt_tree.specs.Place.{Place, subtree_of, parent_of}
use Rattle.xt_syntax.specs.declared.patterns.Pattern.{Pattern}
use Rattle.xt_syntax.specs.declared.patterns.PatternStep.{PatternStep}
use Rattle.node_tests.specs.Tests.{passes_at}
use Rattle.node_axes.specs.Axes.{is_itself, spot_of, axis_nodes}
use Rattle.node_axes.specs.StepWalks.Nodes.{kept_by_all}
use Rattle.quiet_meaning.specs.Paths.{keeps, are_allowed}

-- neither a document nor an attribute
unfoldable pub is_child_kind : Option Kind → Bool
is_child_kind None = false
is_child_kind (Some kind.Doc) = false
is_child_kind (Some kind.Elem) = true
is_child_kind (Some kind.Text) = true
is_child_kind (Some kind.Comment) = true
is_child_kind (Some kind.Pi) = true
is_child_kind (Some kind.Attr) = false

unfoldable pub is_attribute_kind : Option Kind → Bool
is_attribute_kind (Some kind.Attr) = true
is_attribute_kind k = false

unfoldable pub is_document_kind : Option Kind → Bool
is_document_kind (Some kind.Doc) = true
is_document_kind k = false

abbrev pub kind_at : Place → Option Kind
kind_at n = option_map kind_of (subtree_of n)

abbrev pub is_empty : List ℕ → Bool
is_empty [] = true
is_empty (i ∷ path) = false

-- the root of its tree
abbrev pub is_parentless : Place → Bool
is_parentless n = not (is_some n.attribute) && is_empty n.path

abbrev pub is_root_document : Place → Bool
is_root_document n = is_parentless n && is_document_kind (kind_at n)

-- A step on the axis child is for nodes that may be children, and one on the axis attribute for attributes of elements and for
-- attributes that have no parent.
unfoldable pub stands_for : Axis → Place → Bool
stands_for axis.Child n = is_child_kind (kind_at n)
stands_for axis.Attribute n = is_some n.attribute || (is_parentless n && is_attribute_kind (kind_at n))
stands_for along n = false

abbrev pub beside : PatternStep → Place → Option Place → List Place
beside s n None = n ∷ []
beside s n (Some parent) = filter (passes_at s.axis s.test) (axis_nodes s.axis parent)

-- the nodes among which positions count: those children of the parent, or attributes, that pass the test; a node without parent
-- is the first of one
abbrev pub candidates : PatternStep → Place → List Place
candidates s n = beside s n (parent_of n)

abbrev pub is_same : Place → Place → Bool
is_same n m = is_itself (spot_of m) (spot_of n)

-- the step without what comes before it
unfoldable pub step_matches : PatternStep → Place → Bool
step_matches s n = stands_for s.axis n && passes_at s.axis s.test n && list_any (is_same n) (kept_by_all (keeps s.quiet) (candidates s n))

-- the parent, or where `//` comes before the step each ancestor
unfoldable pub above : Bool → Place → List Place
above false n = option_to_list (parent_of n)
above true n = filter (passes_at axis.Ancestor test.Node) (axis_nodes axis.Ancestor n)

abbrev pub has_none : List PatternStep → Bool
has_none [] = true
has_none (s ∷ more) = false

abbrev pub is_led_by : (Place → Bool) → Bool → Bool → List PatternStep → Place → Bool
is_led_by matches rooted deep before n = if not rooted && has_none before then true else list_any matches (above deep n)

-- The steps, from the last to the first. What comes before a step must match above the node. Before the first step of a pattern
-- with `/` or `//` at its front stands the document; before the first step of any other pattern stands nothing.
unfoldable pub steps_match : Bool → List PatternStep → Place → Bool
steps_match rooted [] n = rooted && is_root_document n
steps_match rooted (s ∷ before) n =
    step_matches s n && is_led_by (steps_match rooted before) rooted s.deep before n

abbrev pub is_led : Bool → Bool → List PatternStep → Place → Bool
is_led rooted deep before n = is_led_by (steps_match rooted before) rooted deep before n

abbrev pub pattern_matches : Pattern → Place → Bool
pattern_matches p n = steps_match p.rooted (reverse p.steps) n

-- the predicates of each step have a meaning as predicates
abbrev pub has_allowed : PatternStep → Bool
has_allowed s = are_allowed s.quiet

abbrev pub are_allowed_steps : List PatternStep → Bool
are_allowed_steps steps = list_all has_allowed steps
