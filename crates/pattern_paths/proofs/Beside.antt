-- The nodes among which positions count, in every program.
use Rattle.std.proofs.Common.{◌≡◌, ℕ, ◌<◌, ◌^◌, List, [], ◌∷◌, map, length, take, refl, ap, ap₂}
use Rattle.std.proofs.Common.{sym, ◌∙◌, subst}
use Rattle.std.proofs.Common.{Bool, true, false, arith}
use Rattle.std.specs.Prelude.{◌&&◌, Option, Some, None, is_some}
use Rattle.std.specs.List.{list_all, list_any}
use Rattle.std.specs.Option.{option_to_list}
use Rattle.xt_types.specs.declared.axes.Axis.{Axis}
use Rattle.xt_types.specs.declared.axes.Axis.TheVariants as axis
use Rattle.xt_types.specs.declared.node_tests.Test.{Test}
use Rattle.xt_types.specs.declared.node_tests.Test.TheVariants as test
use Rattle.xt_tree.specs.declared.trees.Tree.{Tree}
use Rattle.xt_tree.specs.Place.{Place, has_attribute, has_place, parent_of, subtree_at}
use Rattle.xt_tree.specs.TreeView.{tree_size}
use Rattle.xt_tree.proofs.PlaceLemmas.{above_exists}
use Rattle.xdm_items.specs.declared.items.Item.TheVariants.{Node}
use Rattle.node_tests.specs.Tests.{passes_at}
use Rattle.node_axes.specs.Axes.{axis_nodes, is_reverse}
use Rattle.node_axes.specs.StepWalks.Nodes.{Focus, Nodes, in_tree_order, step_nodes, slash_nodes}
use Rattle.node_axes.specs.StepWalks.Nodes.{nodes_of_each, kept_by_all}
use Rattle.node_axes.specs.StepWalks.Within.{IsWithin, AreWithin, SameNodes}
use Rattle.node_axes.proofs.StepWalks.NodeLemmas.{same_in_order, order_of_same, step_within}
use Rattle.node_axes.proofs.StepWalks.NodeLemmas.{each_any, chain_within}
use Rattle.quiet_meaning.specs.Quietly.{Quietly, is_predicate, step, path, holds_at, has_some}
use Rattle.quiet_meaning.specs.Quietly.{slashed}
use Rattle.quiet_meaning.specs.Quietly.{with_step, is_truth}
use Rattle.quiet_meaning.specs.Paths.{nodes_of_form}
use Rattle.xt_syntax.specs.declared.exprs.Expr.{Expr}
use Rattle.xt_syntax.specs.declared.exprs.Clause.TheViews.{roll-Expr, roll-Arm}
use Rattle.xt_syntax.specs.declared.exprs.Clause.TheOpen.{Context, If, Slash, Step}
use Rattle.xt_syntax.specs.declared.patterns.PatternStep.{PatternStep}
use Rattle.expr_meaning.specs.Outcomes.Outcome.{Ends, and_then}
use Rattle.expr_meaning.specs.Env.{Env, Meaning, Program}
use Rattle.expr_meaning.specs.Logic.{chosen, truth_at}
use Rattle.expr_meaning.specs.Meaning.{outcome}
use Rattle.expr_meaning.specs.Paths.{slash_of}
use Rattle.expr_laws.proofs.Rolled.{rolled, rolled_arm}
use Rattle.expr_laws.proofs.Texts.{ArmForm}
use Rattle.walk_laws.specs.NodeOrders.Counted.{IsCountable}
use Rattle.walk_laws.proofs.NodeOrders.Counts.{order_short}
use Rattle.walk_laws.specs.QuietValues.Given.{at_node, given_at, has_value}
use Rattle.walk_laws.proofs.QuietValues.Truths.{Agrees, AllAgree, truth_agrees}
use Rattle.walk_laws.proofs.QuietValues.Steps.{step_gives}
use Rattle.walk_laws.proofs.QuietValues.Slashes.{IsShort, slash_agrees}
use Rattle.walk_laws.proofs.Forward.{forward_law}
use Rattle.match_patterns.specs.Patterns.{candidates, beside as beside_in_pattern}
use Rattle.pattern_paths.specs.Upwards.{beside, parent}
use Rattle.pattern_paths.specs.Upwards as upwards
use Rattle.node_axes.proofs.StepWalks.NodeLemmas.{axis_within, found_by_step, step_found_within}
use Rattle.pattern_paths.proofs.AxisAny.{parent_any, node_passes, any_within}
use Rattle.pattern_paths.proofs.Kept.{step_any}
use Rattle.match_patterns.proofs.AboveLemmas.{owner_there}
use Rattle.std.proofs.Math.Bool.{or-false}

-- the parent is a node of the tree

abbrev place : ℕ → Tree → List ℕ → Option ℕ → Place
place number tree way attribute =
    record { number = number; tree = tree; path = way; attribute = attribute }

same_inside : (v u : Place) → Some v ≡ Some u → v ≡ u
same_inside v u e = cc

parent_parts : (number : ℕ) (tree : Tree) (way : List ℕ) (attribute : Option ℕ) (u : Place) →
    has_attribute (subtree_at tree way) attribute ≡ true →
    parent_of (place number tree way attribute) ≡ Some u →
    IsWithin (place number tree way attribute) u
parent_parts number tree way (Some k) u h e =
    subst (IsWithin (place number tree way (Some k))) (same_inside (place number tree way None) u
    e)
    (record { number_is = refl; tree_is = refl; exists = owner_there (subtree_at tree way) k h })
parent_parts number tree [] None u h e = absurd cc
parent_parts number tree (i ∷ way) None u h e =
    subst (IsWithin (place number tree (i ∷ way) None))
    (same_inside (place number tree (take (length way) (i ∷ way)) None) u e)
    (record {
      number_is = refl;
      tree_is = refl;
      exists = above_exists tree (i ∷ way) (length way)
          None h;
    })

pub parent_within : (n u : Place) → has_place n ≡ true → parent_of n ≡ Some u → IsWithin n u
parent_within n u h e = parent_parts n.number n.tree n.path n.attribute u h e

pub itself_within : (n : Place) → has_place n ≡ true → IsWithin n n
itself_within n h = record { number_is = refl; tree_is = refl; exists = h }

-- what a step leads to

abbrev bare : Axis → Test → Nodes
bare along wanted = step_nodes along wanted []

bare_short : (along : Axis) (wanted : Test) → IsShort (bare along wanted)
unfolding step_nodes
bare_short along wanted n = order_short n _

pub path_value : (g : Nodes) → has_value (path g) ≡ true
unfolding has_value
path_value g = refl

pub step_agrees : (p : Program) (along : Axis) (wanted : Test) (qs : List Quietly) (es : List Expr)
    →
    AllAgree qs (map (outcome p) es) → list_all is_predicate qs ≡ true →
    Agrees (step (step_nodes along wanted (map holds_at qs)))
    (outcome p (upwards.step along wanted es))
unfolding given_at
step_agrees p along wanted qs es a d v env f c k =
    ap (λ (m : Meaning). m (at_node env f) k) (rolled p (Step along wanted es))
    ∙ step_gives along wanted qs (map (outcome p) es) a d env f c k

-- the parent

abbrev up : Nodes
up = bare axis.Parent test.Node

up_any : (P : Place → Bool) (n : Place) → has_place n ≡ true →
    list_any P (up n) ≡ list_any P (option_to_list (parent_of n))
up_any P n h =
    step_any P axis.Parent test.Node [] tt n
    ∙ any_within (λ m. (passes_at axis.Parent test.Node m && true) && P m) P n
    (axis_nodes axis.Parent n)
    (axis_within axis.Parent n)
    (λ m w. ap (λ (b : Bool). (b && true) && P m) (node_passes axis.Parent m w.exists))
    ∙ parent_any P n h

has_any : (ns : List Place) → has_some ns ≡ list_any (λ n. true) ns
has_any [] = refl
has_any (n ∷ ns) = refl

has_parent : (n : Place) → has_place n ≡ true → has_some (up n) ≡ is_some (parent_of n)
has_parent n h = has_any (up n) ∙ up_any (λ m. true) n h ∙ by (parent_of n)
  where
    by : (o : Option Place) → list_any (λ m. true) (option_to_list o) ≡ is_some o
    by None = refl
    by (Some u) = refl

-- from the parent one step further

abbrev pub further : Axis → Test → List (Focus → Bool) → Nodes
further along wanted tests = slash_nodes up (step_nodes along wanted tests)

within_order : (n u : Place) (xs : List Place) → IsWithin n u → in_tree_order n xs
    ≡ in_tree_order u xs
unfolding in_tree_order
within_order n u xs w =
    ap₂ (λ (i : ℕ) (t : Tree). in_tree_order (place i t [] None) xs) (sym w.number_is)
    (sym w.tree_is)

module _ (along : Axis) (wanted : Test) (tests : List (Focus → Bool)) where
  abbrev next : Nodes
  next = step_nodes along wanted tests

  same_further : (n u : Place) → has_place n ≡ true → parent_of n ≡ Some u →
      SameNodes (nodes_of_each next (up n)) (next u)
  same_further n u h e P =
      each_any P next (up n)
      ∙ up_any (λ m. list_any P (next m)) n h
      ∙ ap (λ o. list_any (λ m. list_any P (next m)) (option_to_list o)) e
      ∙ or-false (list_any P (next u))

  ordered_again : (u : Place) → in_tree_order u (next u) ≡ next u
  unfolding step_nodes
  ordered_again u =
      let xs = found_by_step along wanted tests u in
      order_of_same u (in_tree_order u xs) xs
      (same_in_order u xs (step_found_within along wanted tests u))

  pub further_is : (n u : Place) → has_place n ≡ true → parent_of n ≡ Some u →
      further along wanted tests n ≡ next u
  unfolding slash_nodes
  further_is n u h e =
      order_of_same n (nodes_of_each next (up n)) (next u) (same_further n u h e)
      ∙ within_order n u (next u) (parent_within n u h e)
      ∙ ordered_again u

-- the nodes beside a node

abbrev beside_from : Axis → Test → Place → Option Place → List Place
beside_from along wanted n None = n ∷ []
beside_from along wanted n (Some u) = bare along wanted u

abbrev pub beside_nodes : Axis → Test → Nodes
beside_nodes along wanted n = beside_from along wanted n (parent_of n)

from_parent : (along : Axis) (wanted : Test) (n : Place) → has_place n ≡ true →
    (o : Option Place) →
    parent_of n ≡ o → AreWithin n (beside_from along wanted n o)
from_parent along wanted n h None e = (itself_within n h, tt)
from_parent along wanted n h (Some u) e =
    chain_within n u (bare along wanted u) (parent_within n u h e) (step_within along wanted [] u)

pub beside_within : (along : Axis) (wanted : Test) (n : Place) → has_place n ≡ true →
    AreWithin n (beside_nodes along wanted n)
beside_within along wanted n h = from_parent along wanted n h (parent_of n) refl

short_from : (along : Axis) (wanted : Test) (n : Place) → IsCountable n → (o : Option Place) →
    parent_of n ≡ o → length (beside_from along wanted n o) < 2 ^ 63
short_from along wanted n c None e = omega arith
short_from along wanted n c (Some u) e =
    let w = parent_within n u c.exists e in
    let s = bare_short along wanted u in
    let t : tree_size u.tree < 2 ^ 63 = subst (λ z. tree_size z < 2 ^ 63) (sym w.tree_is) c.few in
    omega (arith, s, t)

pub beside_short : (along : Axis) (wanted : Test) (n : Place) → IsCountable n →
    length (beside_nodes along wanted n) < 2 ^ 63
beside_short along wanted n c = short_from along wanted n c (parent_of n) refl

-- .. are those of the pattern

forward_from : (s : PatternStep) (n : Place) (o : Option Place) → is_reverse s.axis ≡ false →
    beside_from s.axis s.test n o ≡ beside_in_pattern s n o
unfolding kept_by_all
forward_from s n None h = refl
forward_from s n (Some u) h = forward_law s.axis s.test [] u h

pub beside_candidates : (s : PatternStep) (n : Place) → is_reverse s.axis ≡ false →
    beside_nodes s.axis s.test n ≡ candidates s n
beside_candidates s n h = forward_from s n (parent_of n) h

-- in every program

slashed_path : (g h : Nodes) → slashed (step g) (step h) ≡ path (slash_nodes g h)
unfolding slashed with_step
slashed_path g h = refl

step_short : (g : Nodes) → IsShort g → IsShort (nodes_of_form (step g))
unfolding nodes_of_form
step_short g h n = h n

stays : (along : Axis) (wanted : Test) (tests : List (Focus → Bool)) (n : Place) →
    AreWithin n (nodes_of_form (step (step_nodes along wanted tests)) n)
unfolding nodes_of_form
stays along wanted tests n = step_within along wanted tests n

-- with predicates of these forms
pub beyond_agrees : (p : Program) (along : Axis) (wanted : Test) (qs : List Quietly)
    (es : List Expr) →
    AllAgree qs (map (outcome p) es) → list_all is_predicate qs ≡ true →
    Agrees (path (further along wanted (map holds_at qs)))
    (outcome p (roll-Expr (Slash parent (upwards.step along wanted es))))
beyond_agrees p along wanted qs es a d v env f c k =
    let own = upwards.step along wanted es in
    ap (λ (m : Meaning). m (at_node env f) k) (rolled p (Slash parent own))
    ∙ subst (λ q. Agrees q (slash_of (outcome p parent) (outcome p own)))
    (slashed_path up (step_nodes along wanted (map holds_at qs)))
    (slash_agrees (step up) (step (step_nodes along wanted (map holds_at qs))) (outcome p parent)
    (outcome p own)
    (step_agrees p axis.Parent test.Node [] [] tt refl) (step_agrees p along wanted qs es a d)
    (stays axis.Parent test.Node []) (stays along wanted (map holds_at qs))
    (step_short up (bare_short axis.Parent test.Node)))
    v env f c k

pub context_given : (p : Program) (env : Env) (f : Focus) (k : ℕ) →
    outcome p (roll-Expr Context) (at_node env f) k ≡ Ends (Node f.node ∷ []) k
context_given p env f k = ap (λ (m : Meaning). m (at_node env f) k) (rolled p Context)

module _ (p : Program) (along : Axis) (wanted : Test) where
  abbrev beyond : Expr
  beyond = roll-Expr (Slash parent (upwards.step along wanted []))

  beyond_given : (env : Env) (f : Focus) → IsCountable f.node → (u : Place) → parent_of f.node
      ≡ Some u →
      (k : ℕ) → outcome p beyond (at_node env f) k ≡ Ends (map Node (bare along wanted u)) k
  unfolding given_at
  beyond_given env f c u e k =
      beyond_agrees p along wanted [] [] tt refl (path_value (further along wanted [])) env f c k
      ∙ ap (λ ns. Ends (map Node ns) k) (further_is along wanted [] f.node u c.exists e)

  parent_tells : (env : Env) (f : Focus) → IsCountable f.node → (k : ℕ) →
      truth_at (outcome p parent) (at_node env f) k ≡ Ends (is_some (parent_of f.node)) k
  unfolding holds_at is_truth
  parent_tells env f c k =
      truth_agrees (step up) (outcome p parent) (step_agrees p axis.Parent test.Node [] [] tt refl)
      refl env f c k
      ∙ ap (λ b. Ends b k) (has_parent f.node c.exists)

  chosen_from : (env : Env) (f : Focus) → IsCountable f.node → (k : ℕ) (o : Option Place) →
      parent_of f.node ≡ o →
      chosen (outcome p beyond) (outcome p (roll-Expr Context)) (at_node env f) (is_some o) k
      ≡ Ends (map Node (beside_from along wanted f.node o)) k
  chosen_from env f c k None e = context_given p env f k
  chosen_from env f c k (Some u) e = beyond_given env f c u e k

  pub beside_given : (env : Env) (f : Focus) → IsCountable f.node → (k : ℕ) →
      outcome p (beside along wanted) (at_node env f) k
      ≡ Ends (map Node (beside_nodes along wanted f.node)) k
  beside_given env f c k =
      let arm : ArmForm = record { test = parent; then = beyond } in
      ap (λ (m : Meaning). m (at_node env f) k)
      (rolled p (If (roll-Arm arm ∷ []) (roll-Expr Context)))
      ∙ ap (λ (m : Meaning × Meaning). and_then (truth_at m.0 (at_node env f) k)
      (chosen m.1 (outcome p (roll-Expr Context)) (at_node env f))) (rolled_arm p arm)
      ∙ ap (λ o. and_then o (chosen (outcome p beyond) (outcome p (roll-Expr Context))
      (at_node env f)))
      (parent_tells env f c k)
      ∙ chosen_from env f c k (parent_of f.node) refl
