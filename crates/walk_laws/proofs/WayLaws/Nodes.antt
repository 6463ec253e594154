-- The nodes of a way: how many there are, and how they stand.
use Rattle.std.proofs.Common.{◌≡◌, ℕ, ◌+◌, ◌<◌, ◌≤◌, List, [], ◌∷◌, ◌++◌, map, length, sym, ap, ◌∙◌, arith}
use Rattle.std.specs.Prelude.{◌^◌, ◌&&◌, not, nat_lt, Bool, true, false, if◌then◌else◌, Ok, Err}
use Rattle.std.specs.List.{filter, list_all}
use Rattle.std.proofs.lemmas.Bool.{and_parts, lt-ltb, ltb-true}
use Rattle.std.proofs.lemmas.List.{length-map, append-nil}
use Rattle.xt_names.specs.declared.codes.Code.TheVariants.{Dynamic}
use Rattle.xt_names.specs.declared.codes.DynamicCode.TheVariants.{FOAR0002, XPTY0019}
use Rattle.xt_tree.specs.Place.{Place, has_place}
use Rattle.xt_tree.specs.TreeView.{tree_size}
use Rattle.xt_syntax.specs.declared.exprs.Expr.{Expr}
use Rattle.xt_forms.specs.Quiet.{is_quiet_expr}
use Rattle.xdm_items.specs.declared.items.Item.TheVariants.{Node}
use Rattle.node_tests.specs.Tests.{passes_at}
use Rattle.node_axes.specs.Axes.{axis_nodes, is_reverse}
use Rattle.xdm_items.specs.FunctionArguments.Arguments.{and_then as result_then}
use Rattle.lazy_seq.specs.Orders.{in_document_order}
use Rattle.node_axes.specs.StepWalks.Nodes.{Focus, kept_from, kept_by, kept_by_all, step_nodes, in_tree_order}
use Rattle.node_axes.proofs.StepWalks.NodeLemmas.{step_found_within}
use Rattle.quiet_meaning.specs.Paths.{keeps}
use Rattle.expr_meaning.specs.Outcomes.Outcome.{Ends, and_then, step_outcome, for_each}
use Rattle.expr_meaning.specs.SortMeaning.Sorted.{placed, places}
use Rattle.expr_meaning.specs.Env.{Env, Meaning, at_focus}
use Rattle.expr_meaning.specs.Paths.{path_value, path_places, slash_of}
use Rattle.walk_laws.specs.NodeOrders.Counted.{IsCountable}
use Rattle.walk_laws.proofs.NodeOrders.Counts.{filter_short, axis_short}
use Rattle.walk_laws.proofs.NodeOrders.Orders.{in_order_of_tree}
use Rattle.walk_laws.specs.QuietValues.Given.{at_node, as_placed, have_quiet_forms, has_quiet_form}
use Rattle.walk_laws.proofs.WayLaws.Predicates.{all_quiet}
use Rattle.walk_laws.proofs.Forward.{forward_law}
use Rattle.walk_laws.specs.WayLaws.Ways.{Way, way_nodes, is_walked, can_be_counted}
use Rattle.xt_names.proofs.BoolLemmas.{is_false}
use Rattle.walk_laws.proofs.QuietValues.Slashes.{all_nodes, nodes_as_path}

kept_short : (holds : Focus → Bool) (size at : ℕ) (ns : List Place) →
    length (kept_from holds size at ns) ≤ length ns
unfolding kept_from
kept_short holds size at [] = omega arith
kept_short holds size at (n ∷ ns) =
    by (holds (record { node = n; position = at; size = size })) (kept_short holds size (at + 1) ns)
  where
    by : (b : Bool) → length (kept_from holds size (at + 1) ns) ≤ length ns →
        length (if b then n ∷ kept_from holds size (at + 1) ns else kept_from holds size (at + 1) ns)
        ≤ length (n ∷ ns)
    by true d = omega (arith, d)
    by false d = omega (arith, d)

all_short : (tests : List (Focus → Bool)) (ns : List Place) →
    length (kept_by_all tests ns) ≤ length ns
unfolding kept_by_all kept_by
all_short [] ns = omega arith
all_short (holds ∷ more) ns =
    let a = all_short more (kept_by holds ns) in
    let b = kept_short holds (length ns) 1 ns in
    omega (arith, a, b)

way_short : (w : Way) → length (way_nodes w) ≤ tree_size w.from.tree
way_short w =
    let found = filter (passes_at w.along w.wanted) (axis_nodes w.along w.from) in
    let a = all_short (keeps w.tests) found in
    let b = filter_short (passes_at w.along w.wanted) (axis_nodes w.along w.from) in
    let c = axis_short w.along w.from in
    omega (arith, a, b, c)

-- what is known of a way that is walked
pub record Known (w : Way) : Type 0 where
  pub forward : is_reverse w.along ≡ false
  pub quiet : have_quiet_forms w.tests ≡ true
  pub countable : IsCountable w.from

pub known : (w : Way) → is_walked w ≡ true → has_place w.from ≡ true → Known w
known w h there =
    let p = and_parts (not (is_reverse w.along))
    (list_all is_quiet_expr w.tests && can_be_counted w.from) h in
    let q = and_parts (list_all is_quiet_expr w.tests) (can_be_counted w.from) p.1 in
    record {
      forward = is_false (is_reverse w.along) p.0;
      quiet = all_quiet w.tests q.0;
      countable = record { exists = there; few = ltb-true _ _ q.1 };
    }

pub way_few : (w : Way) → Known w → length (map Node (way_nodes w)) < 2 ^ 63
way_few w k =
    let a = way_short w in
    let b = length-map (way_nodes w) Node in
    let c = k.countable.few in
    omega (arith, a, b, c)

-- the nodes stand in document order

steps_in_order : (w : Way) → is_reverse w.along ≡ false →
    in_tree_order w.from (way_nodes w) ≡ way_nodes w
unfolding step_nodes
steps_in_order w h = forward_law w.along w.wanted (keeps w.tests) w.from h

pub way_in_order : (w : Way) → is_reverse w.along ≡ false →
    in_document_order (map Node (way_nodes w)) ≡ map Node (way_nodes w)
way_in_order w h =
    in_order_of_tree w.from (way_nodes w)
    (step_found_within w.along w.wanted (keeps w.tests) w.from)
    ∙ ap (map Node) (steps_in_order w h)

-- a path from one node

abbrev pub at_one : Place → Focus
at_one m = record { node = m; position = 1; size = 1 }

one_placed : (m : Place) (k : ℕ) →
    step_outcome (path_places (Node m ∷ [])) k ≡ Ends (placed (Node m ∷ [])) k
one_placed m k =
    ap (λ b. step_outcome (result_then (if b then Ok (Node m ∷ []) else Err (Dynamic XPTY0019)) places) k)
    (all_nodes (m ∷ []))
    ∙ ap (λ b. step_outcome (if b then Ok (placed (Node m ∷ [])) else Err (Dynamic FOAR0002)) k)
    (lt-ltb 1 (2 ^ 63) (omega arith))

pub path_from : (a b : Meaning) (env : Env) (m : Place) (ns : List Place) (k : ℕ) →
    a env k ≡ Ends (Node m ∷ []) k → b (at_node env (at_one m)) k ≡ Ends (map Node ns) k →
    in_document_order (map Node ns) ≡ map Node ns → slash_of a b env k ≡ Ends (map Node ns) k
path_from a b env m ns k x y o =
    ap (λ r. and_then r (λ xs j.
    and_then (step_outcome (path_places xs) j) (λ fs i.
    and_then (for_each (λ f. b (at_focus env f)) fs i) (λ ys h. step_outcome (path_value ys) h)))) x
    ∙ ap (λ r. and_then r (λ fs i.
    and_then (for_each (λ f. b (at_focus env f)) fs i) (λ ys h. step_outcome (path_value ys) h)))
    (one_placed m k)
    ∙ ap (λ r. and_then (and_then r (λ ys j. and_then (Ends [] j) (λ zs i. Ends (ys ++ zs) i)))
    (λ ys h. step_outcome (path_value ys) h)) y
    ∙ ap (λ ys. step_outcome (path_value ys) k) (append-nil (map Node ns))
    ∙ ap (λ r. step_outcome r k) (nodes_as_path ns)
    ∙ ap (λ ys. Ends ys k) o
