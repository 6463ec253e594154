-- The laws, from what every expression gives.
use Rattle.std.proofs.Common.{◌≡◌, ℕ, ◌<◌, List, [], ◌∷◌, map, length, refl, ap, sym, ◌∙◌}
use Rattle.std.specs.Prelude.{Some, ◌^◌, true}
use Rattle.std.specs.List.{filter, list_all}
use Rattle.std.proofs.lemmas.Bool.{and_parts}
use Rattle.xt_types.specs.declared.axes.Axis.{Axis}
use Rattle.xt_types.specs.declared.node_tests.Test.{Test}
use Rattle.xt_tree.specs.Place.{Place}
use Rattle.xdm_items.specs.declared.items.Item.TheVariants.{Node}
use Rattle.xt_syntax.specs.declared.exprs.Expr.{Expr}
use Rattle.xt_forms.specs.Quiet as forms
use Rattle.xt_forms.specs.Quiet.{quiet_form_of, is_quiet_expr}
use Rattle.xt_forms.specs.Regular.{is_regular_expr}
use Rattle.node_tests.specs.Tests.{passes_at}
use Rattle.node_axes.specs.Axes.{axis_nodes}
use Rattle.node_axes.specs.StepWalks.Nodes.{Focus, kept_by, kept_by_all, step_nodes}
use Rattle.quiet_meaning.specs.Forms.{form_of}
use Rattle.quiet_meaning.specs.Quietly.{Quietly, integer, last, attribute, step, path, condition}
use Rattle.quiet_meaning.specs.Quietly.{quietly_of, holds_at, holds_quietly, is_predicate, is_pattern_form}
use Rattle.quiet_meaning.specs.Paths.{are_allowed, is_path_form, nodes_of_form, keeps}
use Rattle.quiet_meaning.proofs.FormLemmas.{all_are_alike}
use Rattle.expr_meaning.specs.Outcomes.Outcome.{Ends, and_then, step_outcome}
use Rattle.expr_meaning.specs.Env.{Env, Meaning, Program}
use Rattle.expr_meaning.specs.Meaning.{outcome}
use Rattle.expr_meaning.specs.Paths.{kept_at, alone_if, kept_item, kept, kept_in_turn, step_of}
use Rattle.expr_meaning.specs.Paths.{filter_of}
use Rattle.walk_laws.specs.QuietValues.Given.{as_placed, at_node, given_at, has_value, has_quiet_form}
use Rattle.walk_laws.specs.NodeOrders.Counted.{IsCountable, AreCountable}
use Rattle.walk_laws.specs.QuietValues.Given.{have_quiet_forms, decision}
use Rattle.walk_laws.proofs.QuietValues.Truths.{AllAgree, predicate_has_value, predicate_keeps}
use Rattle.walk_laws.proofs.QuietValues.Steps.{item_kept, list_kept, turn_kept, axis_kept, step_gives}
use Rattle.walk_laws.proofs.QuietValues.Slashes.{path_has_value, path_given}
use Rattle.walk_laws.proofs.QuietValues.Whole.{as_given}

-- which predicates are quiet

predicate_by_form : (q : Quietly) → forms.is_predicate (form_of q) ≡ true → is_predicate q ≡ true
unfolding form_of forms.is_predicate is_predicate
predicate_by_form (integer n) h = refl
predicate_by_form last h = refl
predicate_by_form (attribute g) h = refl
predicate_by_form (step g) h = refl
predicate_by_form (path g) h = refl
predicate_by_form (condition c) h = refl
predicate_by_form q h = absurd cc

quiet_predicate : (e : Expr) → has_quiet_form e ≡ true → is_predicate (quietly_of e) ≡ true
quiet_predicate e h = predicate_by_form (quietly_of e) (ap forms.is_predicate (all_are_alike e) ∙ h)

quiet_predicates : (es : List Expr) → have_quiet_forms es ≡ true →
    list_all is_predicate (map quietly_of es) ≡ true
quiet_predicates [] h = refl
quiet_predicates (e ∷ es) h =
    let p = and_parts (has_quiet_form e) (have_quiet_forms es) h in
    rw (quiet_predicate e p.0, quiet_predicates es p.1) refl

predicate_in_pattern : (q : Quietly) → is_predicate q ≡ true → is_pattern_form q ≡ true
unfolding is_predicate is_pattern_form
predicate_in_pattern (integer n) h = refl
predicate_in_pattern last h = refl
predicate_in_pattern (attribute g) h = refl
predicate_in_pattern (step g) h = refl
predicate_in_pattern (path g) h = refl
predicate_in_pattern (condition c) h = refl
predicate_in_pattern q h = absurd cc

pub quiet_in_patterns : (es : List Expr) → have_quiet_forms es ≡ true → are_allowed es ≡ true
quiet_in_patterns [] h = refl
quiet_in_patterns (e ∷ es) h =
    let p = and_parts (has_quiet_form e) (have_quiet_forms es) h in
    rw (predicate_in_pattern (quietly_of e) (quiet_predicate e p.0), quiet_in_patterns es p.1) refl

pub quiet_by_test : (e : Expr) → is_quiet_expr e ≡ true → has_quiet_form e ≡ true
quiet_by_test e h = (and_parts (is_regular_expr e) (has_quiet_form e) h).1

all_given : (p : Program) (es : List Expr) → AllAgree (map quietly_of es) (map (outcome p) es)
all_given p [] = tt
all_given p (e ∷ es) = (as_given p e, all_given p es)

-- what expressions give

pub value_law : (p : Program) (e : Expr) (env : Env) (f : Focus) (k : ℕ) → IsCountable f.node →
    has_value (quietly_of e) ≡ true →
    outcome p e (at_node env f) k ≡ Ends (given_at (quietly_of e) f) k
value_law p e env f k c h = as_given p e h env f c k

pub path_law : (p : Program) (e : Expr) (env : Env) (f : Focus) (k : ℕ) → IsCountable f.node →
    is_path_form (quietly_of e) ≡ true →
    outcome p e (at_node env f) k ≡ Ends (map Node (nodes_of_form (quietly_of e) f.node)) k
path_law p e env f k c h =
    as_given p e (path_has_value (quietly_of e) h) env f c k
    ∙ ap (λ xs. Ends xs k) (path_given (quietly_of e) f h)

pub here_law : (env : Env) (f : Focus) → env.focus ≡ Some (as_placed f) → at_node env f ≡ env
here_law env f h = λ i. (let r : Env = record {
  locals = env.locals;
  focus = sym h i;
  state = env.state;
} in r)

-- what predicates keep

pub decision_law : (p : Program) (e : Expr) (env : Env) (n : Place) (at size : ℕ) (k : ℕ) →
    IsCountable n → has_quiet_form e ≡ true →
    decision (outcome p e) env (record { node = n; position = at; size = size }) k
    ≡ Ends (holds_quietly e n at size) k
decision_law p e env n at size k c h =
    let f : Focus = record { node = n; position = at; size = size } in
    let q = quiet_predicate e h in
    ap (λ o. and_then o (λ ys j. step_outcome (kept_at at ys) j))
    (as_given p e (predicate_has_value (quietly_of e) q) env f c k)
    ∙ ap (λ r. step_outcome r k) (predicate_keeps (quietly_of e) f q)

pub item_law : (p : Program) (e : Expr) (env : Env) (n : Place) (at size : ℕ) (k : ℕ) →
    IsCountable n → has_quiet_form e ≡ true →
    kept_item (outcome p e) env (as_placed (record { node = n; position = at; size = size })) k
    ≡ alone_if (Node n) (holds_quietly e n at size) k
item_law p e env n at size k c h =
    item_kept (quietly_of e) (outcome p e) (as_given p e) (quiet_predicate e h) env
    (record { node = n; position = at; size = size }) c k

pub list_law : (p : Program) (e : Expr) (env : Env) (ns : List Place) (k : ℕ) →
    AreCountable ns → length ns < 2 ^ 63 → has_quiet_form e ≡ true →
    kept (outcome p e) env (map Node ns) k
    ≡ Ends (map Node (kept_by (holds_at (quietly_of e)) ns)) k
list_law p e env ns k c l h =
    list_kept (quietly_of e) (outcome p e) (as_given p e) (quiet_predicate e h) env ns c l k

pub turn_law : (p : Program) (es : List Expr) (env : Env) (ns : List Place) (k : ℕ) →
    AreCountable ns → length ns < 2 ^ 63 → have_quiet_forms es ≡ true →
    kept_in_turn (map (outcome p) es) env (map Node ns) k
    ≡ Ends (map Node (kept_by_all (keeps es) ns)) k
turn_law p es env ns k c l h =
    turn_kept (map quietly_of es) (map (outcome p) es) (all_given p es) (quiet_predicates es h)
    env ns c l k

pub axis_law : (p : Program) (along : Axis) (wanted : Test) (es : List Expr) (env : Env) (n : Place)
    (k : ℕ) → IsCountable n → have_quiet_forms es ≡ true →
    kept_in_turn (map (outcome p) es) env
    (map Node (filter (passes_at along wanted) (axis_nodes along n))) k
    ≡ Ends (map Node (kept_by_all (keeps es) (filter (passes_at along wanted) (axis_nodes along n)))) k
axis_law p along wanted es env n k c h =
    axis_kept along wanted (map quietly_of es) (map (outcome p) es) (all_given p es)
    (quiet_predicates es h) env n c k

pub filter_law : (p : Program) (of : Meaning) (es : List Expr) (env : Env) (ns : List Place)
    (j k : ℕ) → of env j ≡ Ends (map Node ns) k → AreCountable ns → length ns < 2 ^ 63 →
    have_quiet_forms es ≡ true →
    filter_of of (map (outcome p) es) env j ≡ Ends (map Node (kept_by_all (keeps es) ns)) k
filter_law p of es env ns j k e c l h =
    ap (λ o. and_then o (kept_in_turn (map (outcome p) es) env)) e ∙ turn_law p es env ns k c l h

pub step_law : (p : Program) (along : Axis) (wanted : Test) (es : List Expr) (env : Env) (f : Focus)
    (k : ℕ) → IsCountable f.node → have_quiet_forms es ≡ true →
    step_of along wanted (map (outcome p) es) (at_node env f) k
    ≡ Ends (map Node (step_nodes along wanted (keeps es) f.node)) k
step_law p along wanted es env f k c h =
    step_gives along wanted (map quietly_of es) (map (outcome p) es) (all_given p es)
    (quiet_predicates es h) env f c k
