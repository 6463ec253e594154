-- What predicates mean that fail on no node, as patterns have them (XSLT 2.0, 5.5.3): whether such a predicate keeps a node.
use Rattle.std.specs.Prelude.{ℕ, ℤ, pos, List, [], ◌∷◌, map, filter, length, Bool, true, false, not, ◌&&◌, ◌||◌, nat_eq, if◌then◌else◌, codes}
use Rattle.std.specs.List.{list_all, list_any}
use Rattle.std.specs.Str.{bytes_eq}
use Rattle.xt_names.specs.declared.kinds.CompareOp.{CompareOp}
use Rattle.xt_names.specs.declared.kinds.CompareOp.TheVariants.{Eq}
use Rattle.xt_types.specs.declared.axes.Axis.{Axis}
use Rattle.xt_types.specs.declared.axes.Axis.TheVariants as axis
use Rattle.xt_types.specs.declared.node_tests.NameTest.{NameTest}
use Rattle.xt_types.specs.declared.node_tests.NameTest.TheVariants as names
use Rattle.xt_types.specs.declared.node_tests.Test.{Test}
use Rattle.xt_types.specs.declared.node_tests.Test.TheVariants as test
use Rattle.xt_tree.specs.Place.{Place}
use Rattle.xt_atoms.specs.declared.atoms.Atom.TheVariants as atom
use Rattle.xt_syntax.specs.declared.exprs.Expr.{Expr}
use Rattle.xt_syntax.specs.declared.exprs.Clause.TheOpen.{Int, Str, Or, And, General, Slash, Step, Call}
use Rattle.xt_syntax.specs.Layers.{Kinds, Steps, ExprLayer, expr_gives}
use Rattle.xt_forms.specs.Quiet.{quiet_call}
use Rattle.xt_forms.specs.Regular.{is_regular_expr}
use Rattle.xt_forms.specs.declared.quiet_calls.QuietCall.{QuietCall}
use Rattle.xt_forms.specs.declared.quiet_calls.QuietCall.TheVariants as call
use Rattle.node_axes.specs.StepWalks.Nodes.{Focus, Nodes, step_nodes, slash_nodes}
use Rattle.quiet_meaning.specs.Values.{compares, some_compares, name_text}

-- What an expression gives in a quiet predicate.
pub data Quietly : Type 0 where
  integer : ℤ → Quietly
  literal : List ℕ → Quietly
  -- position(), last(), name() or local-name(), count() of a path
  position : Quietly
  last : Quietly
  text_of : (Place → List ℕ) → Quietly
  count_of : Nodes → Quietly
  -- an attribute by its name, another axis step, more steps joined by `/`
  attribute : Nodes → Quietly
  step : Nodes → Quietly
  path : Nodes → Quietly
  -- what is a truth value
  condition : (Focus → Bool) → Quietly
  -- an attribute by its name, compared with an integer; and an `and` of such a comparison and truth values
  numeric : (Focus → Bool) → Quietly
  conjunction : (Focus → Bool) → Quietly
  -- what has no place in a quiet predicate
  other : Quietly

-- what `or`, `and` and `not` take
unfoldable pub is_truth : Quietly → Bool
is_truth (attribute g) = true
is_truth (step g) = true
is_truth (path g) = true
is_truth (condition c) = true
is_truth q = false

-- what may stand once at the top of a pattern's predicate
unfoldable pub is_numeric : Quietly → Bool
is_numeric (numeric c) = true
is_numeric q = false

-- what a whole predicate is: an integer and last() stand alone
unfoldable pub is_predicate : Quietly → Bool
is_predicate (integer n) = true
is_predicate last = true
is_predicate (attribute g) = true
is_predicate (step g) = true
is_predicate (path g) = true
is_predicate (condition c) = true
is_predicate q = false

abbrev pub has_some : List Place → Bool
has_some [] = false
has_some (n ∷ rest) = true

-- What is kept: an integer keeps the node at that position, last() the last one, a path those from which it leads somewhere.
unfoldable pub holds_at : Quietly → Focus → Bool
holds_at (integer n) f = compares Eq (atom.Int (pos f.position)) (atom.Int n)
holds_at last f = nat_eq f.position f.size
holds_at (attribute g) f = has_some (g f.node)
holds_at (step g) f = has_some (g f.node)
holds_at (path g) f = has_some (g f.node)
holds_at (condition c) f = c f
holds_at (numeric c) f = c f
holds_at (conjunction c) f = c f
holds_at q f = false

-- forms

-- all of what is a truth value
abbrev pub any_of : List Quietly → Quietly
any_of all = if list_all is_truth all then condition (λ f. list_any (λ q. holds_at q f) all) else other

abbrev pub holds_all : List Quietly → Focus → Bool
holds_all all f = list_all (λ q. holds_at q f) all

-- one attribute may be compared with an integer among the truth values
abbrev pub is_conjunction : List Quietly → Bool
is_conjunction all = list_all (λ q. is_truth q || is_numeric q) all && nat_eq (length (filter is_numeric all)) 1

abbrev pub all_of : List Quietly → Quietly
all_of all =
    if list_all is_truth all then condition (holds_all all)
    else if is_conjunction all then conjunction (holds_all all)
    else other

unfoldable pub is_attribute_axis : Axis → Bool
is_attribute_axis axis.Attribute = true
is_attribute_axis along = false

-- an attribute by its name, without predicates
unfoldable pub is_one_name : NameTest → Bool
is_one_name (names.Exact name) = true
is_one_name wanted = false

unfoldable pub is_named : Test → Bool
is_named (test.Named wanted) = is_one_name wanted
is_named wanted = false

abbrev pub is_bare : List Quietly → Bool
is_bare [] = true
is_bare (q ∷ more) = false

abbrev pub is_attribute_name : Axis → Test → List Quietly → Bool
is_attribute_name along wanted tests = is_attribute_axis along && is_named wanted && is_bare tests

abbrev pub stepped : Axis → Test → List Quietly → Quietly
stepped along wanted tests =
    if is_attribute_name along wanted tests then attribute (step_nodes along wanted [])
    else if list_all is_predicate tests then step (step_nodes along wanted (map holds_at tests))
    else other

-- a path, with one step more
unfoldable pub with_step : Nodes → Quietly → Quietly
with_step next (attribute g) = path (slash_nodes g next)
with_step next (step g) = path (slash_nodes g next)
with_step next (path g) = path (slash_nodes g next)
with_step next a = other

-- a path is read from the left, so after its last `/` is one step
unfoldable pub slashed : Quietly → Quietly → Quietly
slashed a (attribute g) = with_step g a
slashed a (step g) = with_step g a
slashed a b = other

-- an attribute that is missing, or whose value is no integer, compares as false
unfoldable pub compared_with_integer : CompareOp → ℤ → Quietly → Quietly
compared_with_integer op k position = condition (λ f. compares op (atom.Int (pos f.position)) (atom.Int k))
compared_with_integer op k last = condition (λ f. compares op (atom.Int (pos f.size)) (atom.Int k))
compared_with_integer op k (count_of g) = condition (λ f. compares op (atom.Int (pos (length (g f.node)))) (atom.Int k))
compared_with_integer op k (attribute g) = numeric (λ f. some_compares op (atom.Int k) (g f.node))
compared_with_integer op k a = other

unfoldable pub compared_with_literal : CompareOp → List ℕ → Quietly → Quietly
compared_with_literal op text (text_of g) = condition (λ f. compares op (atom.Str (g f.node)) (atom.Str text))
compared_with_literal op text (attribute g) = condition (λ f. some_compares op (atom.Str text) (g f.node))
compared_with_literal op text (step g) = condition (λ f. some_compares op (atom.Str text) (g f.node))
compared_with_literal op text (path g) = condition (λ f. some_compares op (atom.Str text) (g f.node))
compared_with_literal op text a = other

unfoldable pub compared_with_last : CompareOp → Quietly → Quietly
compared_with_last op position = condition (λ f. compares op (atom.Int (pos f.position)) (atom.Int (pos f.size)))
compared_with_last op a = other

-- the integer, the literal or last() stands on the right
unfoldable pub compared : CompareOp → Quietly → Quietly → Quietly
compared op a (integer n) = compared_with_integer op n a
compared op a (literal t) = compared_with_literal op t a
compared op a last = compared_with_last op a
compared op a b = other

-- calls

unfoldable pub called : QuietCall → List ℕ → Quietly
called call.Constant local = condition (λ f. bytes_eq local (codes "true"))
called call.Position local = position
called call.Last local = last
called call.NameOf local = text_of (name_text (bytes_eq local (codes "name")))
called f local = other

abbrev pub negated : Quietly → Quietly
negated a = if is_truth a then condition (λ f. not (holds_at a f)) else other

-- exists() of a path, or empty()
unfoldable pub some_in : Bool → Quietly → Quietly
some_in exists (attribute g) = condition (λ f. if exists then has_some (g f.node) else not (has_some (g f.node)))
some_in exists (step g) = condition (λ f. if exists then has_some (g f.node) else not (has_some (g f.node)))
some_in exists (path g) = condition (λ f. if exists then has_some (g f.node) else not (has_some (g f.node)))
some_in exists a = other

unfoldable pub counted : Quietly → Quietly
counted (attribute g) = count_of g
counted (step g) = count_of g
counted (path g) = count_of g
counted a = other

unfoldable pub called_with : QuietCall → List ℕ → Quietly → Quietly
called_with call.Not local a = negated a
called_with call.Exists local a = some_in (bytes_eq local (codes "exists")) a
called_with call.Count local a = counted a
called_with f local a = other

unfoldable pub call_gives : QuietCall → List ℕ → List Quietly → Quietly
call_gives f local [] = called f local
call_gives f local (a ∷ []) = called_with f local a
call_gives f local (a ∷ b ∷ more) = other

abbrev pub quietly : Kinds
quietly = record { Clauses = Unit {0}; Exprs = Quietly; Names = Unit {0}; Parts = Unit {0}; Arms = Unit {0}; Binds = Unit {0}; Attrs = Unit {0}; Flwors = Unit {0}; Orders = Unit {0} }

abbrev pub expr_quietly : ExprLayer quietly → Quietly
expr_quietly (Int n) = integer n
expr_quietly (Str text) = literal text
expr_quietly (Or all) = any_of all
expr_quietly (And all) = all_of all
expr_quietly (General op a b) = compared op a b
expr_quietly (Slash a b) = slashed a b
expr_quietly (Step along node_test tests) = stepped along node_test tests
expr_quietly (Call name args) = call_gives (quiet_call name) name.local args
expr_quietly e = other

abbrev pub quietly_steps : Steps quietly
quietly_steps = record {
  of_expr = expr_quietly;
  of_clause = λ c. tt;
  of_name = λ n. tt;
  of_part = λ p. tt;
  of_arm = λ a. tt;
  of_bind = λ b. tt;
  of_attr = λ a. tt;
  of_flwor = λ f. tt;
  of_order = λ o. tt;
}

abbrev pub quietly_of : Expr → Quietly
quietly_of = expr_gives quietly quietly_steps

-- whether the predicate keeps the node at this position among so many
abbrev pub holds_quietly : Expr → Place → ℕ → ℕ → Bool
holds_quietly e n at count = holds_at (quietly_of e) (record { node = n; position = at; size = count })

-- a quiet predicate, or one in which an attribute is compared with an integer besides
unfoldable pub is_pattern_form : Quietly → Bool
is_pattern_form (literal t) = false
is_pattern_form position = false
is_pattern_form (text_of g) = false
is_pattern_form (count_of g) = false
is_pattern_form other = false
is_pattern_form q = true

-- what a text spells that is a predicate of a pattern
abbrev pub is_pattern_predicate : Expr → Bool
is_pattern_predicate e = is_regular_expr e && is_pattern_form (quietly_of e)
