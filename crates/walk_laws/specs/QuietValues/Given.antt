-- What quiet expressions give where the focus is a node (XPath 2.0, 3).
use Rattle.std.specs.Prelude.{ℕ, pos, List, [], map, length, Bool, true, false}
use Rattle.std.specs.List.{list_all}
use Rattle.xdm_items.specs.declared.items.Item.{Item}
use Rattle.xdm_items.specs.declared.items.Item.TheVariants.{Node}
use Rattle.xdm_items.specs.FunctionArguments.Answers.{of_integer, of_text, of_truth}
use Rattle.xt_syntax.specs.declared.exprs.Expr.{Expr}
use Rattle.xt_forms.specs.Quiet.{quiet_form_of, is_predicate}
use Rattle.node_axes.specs.StepWalks.Nodes.{Focus}
use Rattle.quiet_meaning.specs.Quietly.{Quietly, integer, literal, position, last, text_of}
use Rattle.quiet_meaning.specs.Quietly.{count_of, attribute, step, path, condition, numeric}
use Rattle.quiet_meaning.specs.Quietly.{conjunction, other}
use Rattle.expr_meaning.specs.SortMeaning.Sorted.{Placed}
use Rattle.expr_meaning.specs.Outcomes.Outcome.{Outcome, and_then, step_outcome}
use Rattle.expr_meaning.specs.Env.{Env, Meaning, at_focus}
use Rattle.expr_meaning.specs.Paths.{kept_at}

-- what is looked at as the item of the focus, with its position and the size
abbrev pub as_placed : Focus → Placed Item
as_placed f = record { value = Node f.node; place = f.position; size = f.size }

-- the same things can be read, and the focus is this node
abbrev pub at_node : Env → Focus → Env
at_node env f = at_focus env (as_placed f)

-- a predicate that fails on no node; in none of them is an attribute compared with an integer
abbrev pub has_quiet_form : Expr → Bool
has_quiet_form e = is_predicate (quiet_form_of e)

abbrev pub have_quiet_forms : List Expr → Bool
have_quiet_forms tests = list_all has_quiet_form tests

-- what a predicate does with the node: whether its list, at that position, keeps the node
abbrev pub decision : Meaning → Env → Focus → ℕ → Outcome Bool
decision test env f k =
    and_then (test (at_node env f) k) (λ ys j. step_outcome (kept_at f.position ys) j)

-- the list that an expression of this form gives
unfoldable pub given_at : Quietly → Focus → List Item
given_at (integer n) f = of_integer n
given_at (literal t) f = of_text t
given_at position f = of_integer (pos f.position)
given_at last f = of_integer (pos f.size)
given_at (text_of g) f = of_text (g f.node)
given_at (count_of g) f = of_integer (pos (length (g f.node)))
given_at (attribute g) f = map Node (g f.node)
given_at (step g) f = map Node (g f.node)
given_at (path g) f = map Node (g f.node)
given_at (condition c) f = of_truth (c f)
given_at (numeric c) f = []
given_at (conjunction c) f = []
given_at other f = []

-- whether expressions of this form have a meaning of their own: an attribute compared with an
-- integer means something else in a pattern, where it never fails
unfoldable pub has_value : Quietly → Bool
has_value (integer n) = true
has_value (literal t) = true
has_value position = true
has_value last = true
has_value (text_of g) = true
has_value (count_of g) = true
has_value (attribute g) = true
has_value (step g) = true
has_value (path g) = true
has_value (condition c) = true
has_value (numeric c) = false
has_value (conjunction c) = false
has_value other = false
