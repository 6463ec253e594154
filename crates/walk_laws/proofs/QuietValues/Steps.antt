-- Predicates and steps.
use Rattle.std.proofs.Common.{◌≡◌, ℕ, suc, ◌+◌, ◌<◌, ◌≤◌, List, [], ◌∷◌, map, length, refl, ap, sym}
use Rattle.std.proofs.Common.{◌∙◌, add-one, arith}
use Rattle.std.specs.Prelude.{◌^◌, ◌++◌, ◌&&◌, Bool, true, false, nat_lt, if◌then◌else◌, Ok, Err}
use Rattle.std.specs.List.{filter, list_all}
use Rattle.std.proofs.lemmas.Bool.{and_parts, lt-ltb}
use Rattle.std.proofs.lemmas.List.{length-map}
use Rattle.xt_names.specs.declared.codes.Code.TheVariants.{Dynamic}
use Rattle.xt_names.specs.declared.codes.DynamicCode.TheVariants.{FOAR0002}
use Rattle.xt_types.specs.declared.axes.Axis.{Axis}
use Rattle.xt_types.specs.declared.node_tests.Test.{Test}
use Rattle.xt_tree.specs.Place.{Place}
use Rattle.xdm_items.specs.declared.items.Item.TheVariants.{Node}
use Rattle.node_tests.specs.Tests.{passes_at}
use Rattle.node_axes.specs.Axes.{axis_nodes}
use Rattle.node_axes.specs.StepWalks.Nodes.{Focus, kept_from, kept_by, kept_by_all, step_nodes}
use Rattle.node_axes.proofs.StepWalks.NodeLemmas.{axis_within, filter_within, step_found_within}
use Rattle.lazy_seq.specs.Orders.{in_document_order}
use Rattle.quiet_meaning.specs.Quietly.{Quietly, attribute, step, other, holds_at, is_predicate, stepped}
use Rattle.quiet_meaning.specs.Quietly.{is_attribute_name, is_attribute_axis, is_named}
use Rattle.expr_meaning.specs.Outcomes.Outcome.{Ends, and_then, step_outcome, for_each}
use Rattle.expr_meaning.specs.SortMeaning.Sorted.{placed, placed_from}
use Rattle.expr_meaning.specs.Env.{Env, Meaning}
use Rattle.expr_meaning.specs.Paths.{kept_at, alone_if, kept_item, kept, kept_in_turn, step_of}
use Rattle.walk_laws.specs.NodeOrders.Counted.{IsCountable, AreCountable}
use Rattle.walk_laws.specs.QuietValues.Given.{as_placed, at_node, given_at, has_value}
use Rattle.walk_laws.proofs.NodeOrders.Orders.{in_order_of_tree}
use Rattle.walk_laws.proofs.NodeOrders.Counts.{filter_short, axis_short, all_countable}
use Rattle.walk_laws.proofs.QuietValues.Truths.{Agrees, AllAgree, predicate_has_value, predicate_keeps}

pub few_items : (ns : List Place) → length ns < 2 ^ 63 → nat_lt (length (map Node ns)) (2 ^ 63) ≡ true
few_items ns h = let e = length-map ns Node in lt-ltb _ _ (omega (arith, e, h))

-- one node

pub item_kept : (q : Quietly) (m : Meaning) → Agrees q m → is_predicate q ≡ true → (env : Env)
    (f : Focus) → IsCountable f.node → (k : ℕ) →
    kept_item m env (as_placed f) k ≡ alone_if (Node f.node) (holds_at q f) k
item_kept q m a p env f c k =
    ap (λ o. and_then o (λ ys j. and_then (step_outcome (kept_at f.position ys) j)
    (alone_if (Node f.node)))) (a (predicate_has_value q p) env f c k)
    ∙ ap (λ r. and_then (step_outcome r k) (alone_if (Node f.node))) (predicate_keeps q f p)

-- nodes one after another
each_kept : (q : Quietly) (m : Meaning) → Agrees q m → is_predicate q ≡ true → (env : Env)
    (size at : ℕ) (ns : List Place) → AreCountable ns → (k : ℕ) →
    for_each (kept_item m env) (placed_from at size (map Node ns)) k
    ≡ Ends (map Node (kept_from (holds_at q) size at ns)) k
unfolding kept_from
each_kept q m a p env size at [] c k = refl
each_kept q m a p env size at (n ∷ ns) c k =
    ap (λ o. and_then o (λ ys j. and_then
    (for_each (kept_item m env) (placed_from (suc at) size (map Node ns)) j)
    (λ zs i. Ends (ys ++ zs) i)))
    (item_kept q m a p env (record { node = n; position = at; size = size }) c.0 k)
    ∙ by (holds_at q (record { node = n; position = at; size = size }))
    (each_kept q m a p env size (suc at) ns c.1 k
    ∙ ap (λ j. Ends (map Node (kept_from (holds_at q) size j ns)) k) (sym (add-one at)))
  where
    by : (b : Bool) →
        for_each (kept_item m env) (placed_from (suc at) size (map Node ns)) k
        ≡ Ends (map Node (kept_from (holds_at q) size (at + 1) ns)) k →
        and_then (alone_if (Node n) b k) (λ ys j. and_then
        (for_each (kept_item m env) (placed_from (suc at) size (map Node ns)) j)
        (λ zs i. Ends (ys ++ zs) i))
        ≡ Ends (map Node (if b then n ∷ kept_from (holds_at q) size (at + 1) ns
        else kept_from (holds_at q) size (at + 1) ns)) k
    by true h = rw h refl
    by false h = rw h refl

pub list_kept : (q : Quietly) (m : Meaning) → Agrees q m → is_predicate q ≡ true → (env : Env)
    (ns : List Place) → AreCountable ns → length ns < 2 ^ 63 → (k : ℕ) →
    kept m env (map Node ns) k ≡ Ends (map Node (kept_by (holds_at q) ns)) k
unfolding kept_by
list_kept q m a p env ns c l k =
    ap (λ b. and_then (step_outcome (if b then Ok (placed (map Node ns)) else Err (Dynamic FOAR0002)) k)
    (for_each (kept_item m env))) (few_items ns l)
    ∙ each_kept q m a p env (length (map Node ns)) 1 ns c k
    ∙ ap (λ s. Ends (map Node (kept_from (holds_at q) s 1 ns)) k) (length-map ns Node)

-- what is kept are some of the nodes
kept_countable : (h : Focus → Bool) (size at : ℕ) (ns : List Place) → AreCountable ns →
    AreCountable (kept_from h size at ns)
unfolding kept_from
kept_countable h size at [] c = tt
kept_countable h size at (n ∷ ns) c =
    by (h (record { node = n; position = at; size = size })) (kept_countable h size (at + 1) ns c.1)
  where
    by : (b : Bool) → AreCountable (kept_from h size (at + 1) ns) →
        AreCountable (if b then n ∷ kept_from h size (at + 1) ns else kept_from h size (at + 1) ns)
    by true d = (c.0, d)
    by false d = d

kept_short : (h : Focus → Bool) (size at : ℕ) (ns : List Place) →
    length (kept_from h size at ns) ≤ length ns
unfolding kept_from
kept_short h size at [] = omega arith
kept_short h size at (n ∷ ns) =
    by (h (record { node = n; position = at; size = size })) (kept_short h size (at + 1) ns)
  where
    by : (b : Bool) → length (kept_from h size (at + 1) ns) ≤ length ns →
        length (if b then n ∷ kept_from h size (at + 1) ns else kept_from h size (at + 1) ns)
        ≤ length (n ∷ ns)
    by true d = omega (arith, d)
    by false d = omega (arith, d)

pub turn_kept : (qs : List Quietly) (ms : List Meaning) → AllAgree qs ms →
    list_all is_predicate qs ≡ true → (env : Env) (ns : List Place) → AreCountable ns →
    length ns < 2 ^ 63 → (k : ℕ) →
    kept_in_turn ms env (map Node ns) k ≡ Ends (map Node (kept_by_all (map holds_at qs) ns)) k
unfolding kept_by_all kept_by
turn_kept [] [] a p env ns c l k = refl
turn_kept [] (m ∷ ms) a p env ns c l k = absurd a
turn_kept (q ∷ qs) [] a p env ns c l k = absurd a
turn_kept (q ∷ qs) (m ∷ ms) a p env ns c l k =
    let e = and_parts (is_predicate q) (list_all is_predicate qs) p in
    let s = kept_short (holds_at q) (length ns) 1 ns in
    ap (λ o. and_then o (kept_in_turn ms env)) (list_kept q m a.0 e.0 env ns c l k)
    ∙ turn_kept qs ms a.1 e.1 env (kept_from (holds_at q) (length ns) 1 ns)
    (kept_countable (holds_at q) (length ns) 1 ns c) (omega (arith, s, l)) k

-- a step

-- the nodes of an axis that pass a test
pub axis_kept : (along : Axis) (wanted : Test) (qs : List Quietly) (ms : List Meaning) →
    AllAgree qs ms → list_all is_predicate qs ≡ true → (env : Env) (n : Place) → IsCountable n →
    (k : ℕ) →
    kept_in_turn ms env (map Node (filter (passes_at along wanted) (axis_nodes along n))) k
    ≡ Ends (map Node (kept_by_all (map holds_at qs)
    (filter (passes_at along wanted) (axis_nodes along n)))) k
axis_kept along wanted qs ms a p env n c k =
    let found = filter (passes_at along wanted) (axis_nodes along n) in
    let w = filter_within n (passes_at along wanted) (axis_nodes along n) (axis_within along n) in
    let s = filter_short (passes_at along wanted) (axis_nodes along n) in
    let t = axis_short along n in
    let l : length found < 2 ^ 63 = omega (arith, s, t, c.few) in
    turn_kept qs ms a p env found (all_countable n found c w) l k

pub step_gives : (along : Axis) (wanted : Test) (qs : List Quietly) (ms : List Meaning) →
    AllAgree qs ms → list_all is_predicate qs ≡ true → (env : Env) (f : Focus) →
    IsCountable f.node → (k : ℕ) →
    step_of along wanted ms (at_node env f) k
    ≡ Ends (map Node (step_nodes along wanted (map holds_at qs) f.node)) k
unfolding step_nodes
step_gives along wanted qs ms a p env f c k =
    ap (λ o. and_then o (λ ys i. Ends (in_document_order ys) i))
    (axis_kept along wanted qs ms a p (at_node env f) f.node c k)
    ∙ ap (λ ys. Ends ys k)
    (in_order_of_tree f.node _ (step_found_within along wanted (map holds_at qs) f.node))

no_tests : (along : Axis) (wanted : Test) (qs : List Quietly) →
    is_attribute_name along wanted qs ≡ true → qs ≡ []
no_tests along wanted [] e = refl
no_tests along wanted (q ∷ qs) e =
    let bare = (and_parts (is_attribute_axis along && is_named wanted) false e).1 in absurd (cc)

-- of a step whose predicates are quiet
pub record IsStep (along : Axis) (wanted : Test) (qs : List Quietly) (f : Focus) : Type 0 where
  pub quiet : list_all is_predicate qs ≡ true
  pub value : map Node (step_nodes along wanted (map holds_at qs) f.node)
      ≡ given_at (stepped along wanted qs) f

pub is_step : (along : Axis) (wanted : Test) (qs : List Quietly) (f : Focus) →
    has_value (stepped along wanted qs) ≡ true → IsStep along wanted qs f
unfolding has_value given_at
is_step along wanted qs f h =
    by (is_attribute_name along wanted qs) refl (list_all is_predicate qs) refl h
  where
    by : (b : Bool) → is_attribute_name along wanted qs ≡ b →
        (d : Bool) → list_all is_predicate qs ≡ d →
        has_value (if b then attribute (step_nodes along wanted [])
        else if d then step (step_nodes along wanted (map holds_at qs)) else other) ≡ true →
        IsStep along wanted qs f
    by true e d g h =
        let none = no_tests along wanted qs e in
        record { quiet = rw none refl; value = rw (e, none) refl }
    by false e true g h = record { quiet = g; value = rw (e, g) refl }
    by false e false g h = absurd cc

pub step_agrees : (along : Axis) (wanted : Test) (qs : List Quietly) (ms : List Meaning) →
    AllAgree qs ms → Agrees (stepped along wanted qs) (step_of along wanted ms)
step_agrees along wanted qs ms a h env f c k =
    let e = is_step along wanted qs f h in
    step_gives along wanted qs ms a e.quiet env f c k ∙ ap (λ ys. Ends ys k) e.value
