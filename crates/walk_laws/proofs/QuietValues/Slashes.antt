-- Paths of more steps.
use Rattle.std.proofs.Common.{◌≡◌, ℕ, suc, ◌<◌, ◌≤◌, List, [], ◌∷◌, ◌++◌, map, length, refl, ap, sym}
use Rattle.std.proofs.Common.{◌∙◌, arith, subst}
use Rattle.std.proofs.lemmas.List.{map-append}
use Rattle.std.specs.Prelude.{◌^◌, Bool, true, false, if◌then◌else◌, Ok, Err}
use Rattle.std.specs.List.{list_all}
use Rattle.xt_names.specs.declared.codes.Code.TheVariants.{Dynamic}
use Rattle.xt_names.specs.declared.codes.DynamicCode.TheVariants.{FOAR0002, XPTY0018, XPTY0019}
use Rattle.xt_tree.specs.Place.{Place}
use Rattle.xt_tree.specs.TreeView.{tree_size}
use Rattle.xdm_items.specs.declared.items.Item.TheVariants.{Node}
use Rattle.xt_syntax.specs.declared.exprs.Expr.{Expr}
use Rattle.xt_syntax.specs.declared.exprs.Clause.TheOpen.{Or, And, General, Slash, Step, Call}
use Rattle.xt_types.specs.declared.axes.Axis.{Axis}
use Rattle.xt_types.specs.declared.node_tests.Test.{Test}
use Rattle.xt_forms.specs.Quiet.{quiet_call}
use Rattle.xdm_items.specs.FunctionArguments.Arguments.{and_then as result_then}
use Rattle.expr_meaning.specs.OperatorValues.Nodes.{is_node}
use Rattle.lazy_seq.specs.Orders.{in_document_order}
use Rattle.node_axes.specs.StepWalks.Nodes.{Focus, Nodes, step_nodes, slash_nodes, nodes_of_each}
use Rattle.node_axes.proofs.StepWalks.NodeLemmas.{Stays, each_within}
use Rattle.quiet_meaning.specs.Quietly.{Quietly, attribute, step, path, other, quietly_of, holds_at}
use Rattle.quiet_meaning.specs.Quietly.{stepped, slashed, with_step, is_attribute_name, is_predicate}
use Rattle.quiet_meaning.specs.Paths.{is_path_form, nodes_of_form}
use Rattle.quiet_meaning.proofs.FormLemmas.{gives_quietly, rolled_quietly, each_expr}
use Rattle.quiet_meaning.proofs.HoldLemmas.{slashed_is}
use Rattle.quiet_meaning.proofs.PathLemmas.{Layer, any_no_path, all_no_path, compared_no_path}
use Rattle.quiet_meaning.proofs.PathLemmas.{call_no_path}
use Rattle.expr_meaning.specs.Outcomes.Outcome.{Ends, and_then, step_outcome, for_each}
use Rattle.expr_meaning.specs.SortMeaning.Sorted.{placed, placed_from, places}
use Rattle.expr_meaning.specs.Env.{Env, Meaning, at_focus}
use Rattle.expr_meaning.specs.Paths.{is_atom, path_value, path_places, slash_of}
use Rattle.walk_laws.specs.NodeOrders.Counted.{AreCountable}
use Rattle.walk_laws.specs.QuietValues.Given.{at_node, given_at, has_value}
use Rattle.walk_laws.proofs.NodeOrders.Orders.{in_order_of_tree}
use Rattle.walk_laws.proofs.NodeOrders.Counts.{order_short}
use Rattle.walk_laws.proofs.QuietValues.Truths.{Agrees}
use Rattle.walk_laws.proofs.NodeOrders.Counts.{all_countable}
use Rattle.walk_laws.proofs.QuietValues.Steps.{few_items}

-- a path leads to no more nodes than the tree has

abbrev pub IsShort : Nodes → Type 0
IsShort g = (n : Place) → length (g n) ≤ tree_size n.tree

nothing_short : (n : Place) → length {A = Place} [] ≤ tree_size n.tree
nothing_short n = omega arith

no_path_short : (q : Quietly) → is_path_form q ≡ false → IsShort (nodes_of_form q)
unfolding is_path_form nodes_of_form
no_path_short (attribute g) e n = absurd cc
no_path_short (step g) e n = absurd cc
no_path_short (path g) e n = absurd cc
no_path_short q e n = nothing_short n

slash_short : (g h : Nodes) → IsShort (slash_nodes g h)
unfolding slash_nodes
slash_short g h n = order_short n _

step_short : (along : Axis) (wanted : Test) (tests : List (Focus → Bool)) →
    IsShort (step_nodes along wanted tests)
unfolding step_nodes
step_short along wanted tests n = order_short n _

with_short : (g : Nodes) (a : Quietly) → IsShort (nodes_of_form (with_step g a))
unfolding with_step nodes_of_form
with_short g (attribute h) n = slash_short h g n
with_short g (step h) n = slash_short h g n
with_short g (path h) n = slash_short h g n
with_short g a n = nothing_short n

slashed_short : (a b : Quietly) → IsShort (nodes_of_form (slashed a b))
unfolding slashed nodes_of_form
slashed_short a (attribute g) n = with_short g a n
slashed_short a (step g) n = with_short g a n
slashed_short a b n = nothing_short n

stepped_short : (along : Axis) (wanted : Test) (qs : List Quietly) →
    IsShort (nodes_of_form (stepped along wanted qs))
unfolding nodes_of_form
stepped_short along wanted qs n =
    by (is_attribute_name along wanted qs) (list_all is_predicate qs)
  where
    by : (b d : Bool) → length (nodes_of_form (if b then attribute (step_nodes along wanted [])
        else if d then step (step_nodes along wanted (map holds_at qs)) else other) n)
        ≤ tree_size n.tree
    by true d = step_short along wanted [] n
    by false true = step_short along wanted (map holds_at qs) n
    by false false = nothing_short n

layer_short : (x : Layer) → IsShort (nodes_of_form (gives_quietly x))
unfolding nodes_of_form
layer_short (Or all) = no_path_short _ (any_no_path (map quietly_of all))
layer_short (And all) = no_path_short _ (all_no_path (map quietly_of all))
layer_short (General op a b) = no_path_short _ (compared_no_path op (quietly_of a) (quietly_of b))
layer_short (Slash a b) = slashed_short (quietly_of a) (quietly_of b)
layer_short (Step along wanted tests) = stepped_short along wanted (map quietly_of tests)
layer_short (Call name args) =
    no_path_short _ (call_no_path (quiet_call name) name.local (map quietly_of args))
layer_short x = λ n. nothing_short n

pub path_short : (e : Expr) → IsShort (nodes_of_form (quietly_of e))
path_short = each_expr (λ e. IsShort (nodes_of_form (quietly_of e)))
    (λ x. subst (λ q. IsShort (nodes_of_form q)) (sym (rolled_quietly x)) (layer_short x))

-- what a path gives

pub path_has_value : (q : Quietly) → is_path_form q ≡ true → has_value q ≡ true
unfolding is_path_form has_value
path_has_value (attribute g) h = refl
path_has_value (step g) h = refl
path_has_value (path g) h = refl
path_has_value q h = absurd cc

pub path_given : (q : Quietly) (f : Focus) → is_path_form q ≡ true →
    given_at q f ≡ map Node (nodes_of_form q f.node)
unfolding is_path_form given_at nodes_of_form
path_given (attribute g) f h = refl
path_given (step g) f h = refl
path_given (path g) f h = refl
path_given q f h = absurd cc

with_path : (g : Nodes) (a : Quietly) → has_value (with_step g a) ≡ true →
    is_path_form (with_step g a) ≡ true
unfolding with_step has_value is_path_form
with_path g (attribute h) e = refl
with_path g (step h) e = refl
with_path g (path h) e = refl
with_path g a e = absurd cc

slashed_path : (a b : Quietly) → has_value (slashed a b) ≡ true → is_path_form (slashed a b) ≡ true
unfolding slashed has_value is_path_form
slashed_path a (attribute g) e = with_path g a e
slashed_path a (step g) e = with_path g a e
slashed_path a b e = absurd cc

-- lists of nodes

pub all_nodes : (ns : List Place) → list_all is_node (map Node ns) ≡ true
unfolding is_node
all_nodes [] = refl
all_nodes (n ∷ ns) = all_nodes ns

pub nodes_placed : (ns : List Place) → length ns < 2 ^ 63 → (k : ℕ) →
    step_outcome (path_places (map Node ns)) k ≡ Ends (placed (map Node ns)) k
nodes_placed ns l k =
    ap (λ b. step_outcome (result_then (if b then Ok (map Node ns) else Err (Dynamic XPTY0019)) places) k)
    (all_nodes ns)
    ∙ ap (λ b. step_outcome (if b then Ok (placed (map Node ns)) else Err (Dynamic FOAR0002)) k)
    (few_items ns l)

pub nodes_as_path : (ns : List Place) → path_value (map Node ns) ≡ Ok (in_document_order (map Node ns))
nodes_as_path ns =
    ap (λ b. if b then Ok (in_document_order (map Node ns))
    else if list_all is_atom (map Node ns) then Ok (map Node ns) else Err (Dynamic XPTY0018))
    (all_nodes ns)

-- from each node one step further
each_further : (b : Quietly) (m : Meaning) → Agrees b m → is_path_form b ≡ true → (env : Env)
    (size at : ℕ) (ns : List Place) → AreCountable ns → (k : ℕ) →
    for_each (λ p. m (at_focus env p)) (placed_from at size (map Node ns)) k
    ≡ Ends (map Node (nodes_of_each (nodes_of_form b) ns)) k
unfolding nodes_of_each
each_further b m a p env size at [] c k = refl
each_further b m a p env size at (n ∷ ns) c k =
    let f : Focus = record { node = n; position = at; size = size } in
    ap (λ o. and_then o (λ ys j. and_then
    (for_each (λ q. m (at_focus env q)) (placed_from (suc at) size (map Node ns)) j)
    (λ zs i. Ends (ys ++ zs) i)))
    (a (path_has_value b p) env f c.0 k ∙ ap (λ ys. Ends ys k) (path_given b f p))
    ∙ ap (λ o. and_then o (λ zs i. Ends (map Node (nodes_of_form b n) ++ zs) i))
    (each_further b m a p env size (suc at) ns c.1 k)
    ∙ ap (λ ys. Ends ys k)
    (sym (map-append Node (nodes_of_form b n) (nodes_of_each (nodes_of_form b) ns)))

pub slash_agrees : (a b : Quietly) (m l : Meaning) → Agrees a m → Agrees b l →
    Stays (nodes_of_form a) → Stays (nodes_of_form b) → IsShort (nodes_of_form a) →
    Agrees (slashed a b) (slash_of m l)
unfolding slash_nodes
slash_agrees a b m l x y s t short h env f c k =
    let p = slashed_path a b h in
    let e = slashed_is a b p in
    let n = f.node in
    let ns = nodes_of_form a n in
    let few : length ns < 2 ^ 63 = (let z = short n in omega (arith, z, c.few)) in
    let zs = nodes_of_each (nodes_of_form b) ns in
    ap (λ o. and_then o (λ xs j.
    and_then (step_outcome (path_places xs) j) (λ fs i.
    and_then (for_each (λ q. l (at_focus (at_node env f) q)) fs i)
    (λ ys z. step_outcome (path_value ys) z))))
    (x (path_has_value a e.front) env f c k ∙ ap (λ ys. Ends ys k) (path_given a f e.front))
    ∙ ap (λ o. and_then o (λ fs i.
    and_then (for_each (λ q. l (at_focus (at_node env f) q)) fs i)
    (λ ys z. step_outcome (path_value ys) z))) (nodes_placed ns few k)
    ∙ ap (λ o. and_then o (λ ys z. step_outcome (path_value ys) z))
    (each_further b l y e.last_step (at_node env f) (length (map Node ns)) 1 ns
    (all_countable n ns c (s n)) k)
    ∙ ap (λ r. step_outcome r k) (nodes_as_path zs)
    ∙ ap (λ ys. Ends ys k) (in_order_of_tree n zs (each_within n (nodes_of_form b) ns t (s n)))
    ∙ ap (λ (g : Nodes). Ends (map Node (g n)) k) (sym e.is)
    ∙ ap (λ ys. Ends ys k) (sym (path_given (slashed a b) f p))
