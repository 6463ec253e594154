-- The loops of predicates and paths.
use Rattle.std.proofs.Common.{◌≡◌, ℕ, zero, suc, ◌+◌, ◌<◌, ◌≤◌, List, [], ◌∷◌, ◌++◌, map, drop, length, get_or, refl, ap, sym, ◌∙◌, subst, Bool, true, false, arith}
use Rattle.std.specs.Prelude.{if◌then◌else◌, Result, Ok, Err}
use Rattle.std.specs.Result.{IfOk}
use Rattle.std.specs.List.{list_all, filter}
use Rattle.std.proofs.lemmas.Bool.{and_parts}
use Rattle.xt_types.specs.declared.axes.Axis.{Axis}
use Rattle.xt_types.specs.declared.node_tests.Test.{Test}
use Rattle.xt_tree.specs.Place.{Place}
use Rattle.xt_syntax.specs.declared.exprs.Expr.{Expr}
use Rattle.xt_syntax.specs.declared.exprs.Expr.TheVariants as expr
use Rattle.xt_syntax.specs.declared.exprs.Expr.TheVariants.{rolls-Or, rolls-And, rolls-Slash, rolls-Step}
use Rattle.xt_syntax.specs.declared.exprs.Clause.TheViews.{out-Expr, roll-Expr, roll-out-Expr}
use Rattle.xt_syntax.specs.declared.exprs.Clause.TheOpen.{Or, And, General, Slash, Step, Call}
use Rattle.xt_forms.specs.Quiet.{quiet_call}
use Rattle.quiet_meaning.specs.NodeTests.Tests.{passes_at}
use Rattle.node_axes.specs.Axes.{axis_nodes}
use Rattle.node_axes.specs.StepWalks.Nodes.{Focus, Nodes, kept_from, kept_by, kept_by_all, in_tree_order, step_nodes, nodes_of_each, slash_nodes}
use Rattle.node_axes.specs.StepWalks.Within.{AreWithin}
use Rattle.node_axes.proofs.StepWalks.NodeLemmas.{step_found_within, each_within}
use Rattle.quiet_meaning.specs.Quietly.{Quietly, quietly_of, holds_at, is_pattern_form, any_of, all_of, stepped, slashed}
use Rattle.quiet_meaning.specs.Paths.{is_path_form, nodes_of_form}
use Rattle.quiet_meaning.proofs.FormLemmas.{gives_quietly, rolled_quietly}
use Rattle.quiet_meaning.proofs.HoldLemmas.{any_allowed, any_holds, all_allowed, all_holds, slashed_is, stepped_is}
use Rattle.quiet_meaning.proofs.PathLemmas.{stays, any_no_path, all_no_path, compared_no_path, call_no_path}
use Rattle.quiet_eval.specs.Subjects.{Layer, decided}
use Rattle.quiet_eval.proofs.SubjectLemmas.{quietly_out, no_truth}
use Rattle.std.proofs.lemmas.List.{append-nil, append_assoc}
use Rattle.quiet_eval.specs.QuietPlaces.Free.{focus}

-- lists

pub drop_item : {A : Type 0} (xs : List A) (i : ℕ) (x d : A) → i < length xs → x ≡ get_or xs i d → drop i xs ≡ x ∷ drop (i + 1) xs
drop_item [] i x d h e = absurd (omega arith)
drop_item (y ∷ ys) zero x d h e = ap (λ z. z ∷ ys) (sym e)
drop_item (y ∷ ys) (suc i) x d h e = let s : suc i + 1 ≡ suc (i + 1) = omega arith in rw s (drop_item ys i x d (omega arith) e)

pub drop_end : {A : Type 0} (xs : List A) (i : ℕ) → length xs ≤ i → drop i xs ≡ []
drop_end [] zero h = refl
drop_end [] (suc i) h = refl
drop_end (y ∷ ys) zero h = absurd (omega arith)
drop_end (y ∷ ys) (suc i) h = drop_end ys i (omega arith)

pub each_allowed : (all : List Expr) (i : ℕ) (x d : Expr) → i < length all → x ≡ get_or all i d → list_all is_pattern_form (map quietly_of all) ≡ true → is_pattern_form (quietly_of x) ≡ true
each_allowed [] i x d h e g = absurd (omega arith)
each_allowed (y ∷ ys) zero x d h e g = subst (λ z. is_pattern_form (quietly_of z) ≡ true) (sym e) (and_parts (is_pattern_form (quietly_of y)) (list_all is_pattern_form (map quietly_of ys)) g).0
each_allowed (y ∷ ys) (suc i) x d h e g = each_allowed ys i x d (omega arith) e (and_parts (is_pattern_form (quietly_of y)) (list_all is_pattern_form (map quietly_of ys)) g).1

-- `or` and `and`

or_is : (e : Expr) (all xs : List Expr) → e ≡ expr.Or all → xs ≡ all → quietly_of e ≡ any_of (map quietly_of xs)
or_is e all xs h g = ap quietly_of (h ∙ sym (rolls-Or all)) ∙ rolled_quietly (Or all) ∙ ap (λ (z : List Expr). any_of (map quietly_of z)) (sym g)

and_is : (e : Expr) (all xs : List Expr) → e ≡ expr.And all → xs ≡ all → quietly_of e ≡ all_of (map quietly_of xs)
and_is e all xs h g = ap quietly_of (h ∙ sym (rolls-And all)) ∙ rolled_quietly (And all) ∙ ap (λ (z : List Expr). all_of (map quietly_of z)) (sym g)

pub or_allowed : (e : Expr) (all xs : List Expr) → e ≡ expr.Or all → xs ≡ all → is_pattern_form (quietly_of e) ≡ true → list_all is_pattern_form (map quietly_of xs) ≡ true
or_allowed e all xs h g k = any_allowed (map quietly_of xs) (subst (λ (q : Quietly). is_pattern_form q ≡ true) (or_is e all xs h g) k)

pub and_allowed : (e : Expr) (all xs : List Expr) → e ≡ expr.And all → xs ≡ all → is_pattern_form (quietly_of e) ≡ true → list_all is_pattern_form (map quietly_of xs) ≡ true
and_allowed e all xs h g k = all_allowed (map quietly_of xs) (subst (λ (q : Quietly). is_pattern_form q ≡ true) (and_is e all xs h g) k)

pub or_holds : (e : Expr) (all xs : List Expr) (f : Focus) → e ≡ expr.Or all → xs ≡ all → is_pattern_form (quietly_of e) ≡ true → decided true (map quietly_of xs) f ≡ holds_at (quietly_of e) f
or_holds e all xs f h g k = let i = or_is e all xs h g in any_holds (map quietly_of xs) f (subst (λ (q : Quietly). is_pattern_form q ≡ true) i k) ∙ ap (λ (q : Quietly). holds_at q f) (sym i)

pub and_holds : (e : Expr) (all xs : List Expr) (f : Focus) → e ≡ expr.And all → xs ≡ all → is_pattern_form (quietly_of e) ≡ true → decided false (map quietly_of xs) f ≡ holds_at (quietly_of e) f
and_holds e all xs f h g k = let i = and_is e all xs h g in all_holds (map quietly_of xs) f (subst (λ (q : Quietly). is_pattern_form q ≡ true) i k) ∙ ap (λ (q : Quietly). holds_at q f) (sym i)

-- from each node one step further

pub each_step : (g : Nodes) (nodes : List Place) (i : ℕ) (x d : Place) (found more whole : List Place) → i < length nodes → x ≡ get_or nodes i d
    → found ++ nodes_of_each g (drop i nodes) ≡ whole → more ≡ found ++ g x → more ++ nodes_of_each g (drop (i + 1) nodes) ≡ whole
unfolding nodes_of_each
each_step g nodes i x d found more whole h e is next =
    ap (λ (z : List Place). z ++ nodes_of_each g (drop (i + 1) nodes)) next ∙ append_assoc found (g x) (nodes_of_each g (drop (i + 1) nodes))
    ∙ ap (λ (z : List Place). found ++ nodes_of_each g z) (sym (drop_item nodes i x d h e)) ∙ is

pub each_end : (g : Nodes) (nodes : List Place) (i : ℕ) (found whole : List Place) → length nodes ≤ i → found ++ nodes_of_each g (drop i nodes) ≡ whole → found ≡ whole
unfolding nodes_of_each
each_end g nodes i found whole h is = sym (append-nil found) ∙ ap (λ (z : List Place). found ++ nodes_of_each g z) (sym (drop_end nodes i h)) ∙ is

-- one predicate

pub kept_begins : (h : Focus → Bool) (nodes kept : List Place) → kept ≡ [] → kept ++ kept_from h (length nodes) 1 nodes ≡ kept_by h nodes
unfolding kept_by
kept_begins h nodes kept e = ap (λ (z : List Place). z ++ kept_from h (length nodes) 1 nodes) e

pub kept_step : (h : Focus → Bool) (size : ℕ) (nodes : List Place) (i : ℕ) (x d : Place) (kept more whole : List Place) (b : Bool) → i < length nodes → x ≡ get_or nodes i d
    → kept ++ kept_from h size (i + 1) (drop i nodes) ≡ whole → b ≡ h (focus x (i + 1) size) → more ≡ (if b then kept ++ x ∷ [] else kept)
    → more ++ kept_from h size ((i + 1) + 1) (drop (i + 1) nodes) ≡ whole
unfolding kept_from
kept_step h size nodes i x d kept more whole b l e is t m = by b t m
  where
    rest : List Place
    rest = kept_from h size ((i + 1) + 1) (drop (i + 1) nodes)

    at_item : kept ++ kept_from h size (i + 1) (x ∷ drop (i + 1) nodes) ≡ whole
    at_item = ap (λ (z : List Place). kept ++ kept_from h size (i + 1) z) (sym (drop_item nodes i x d l e)) ∙ is

    with_truth : (b : Bool) → b ≡ h (focus x (i + 1) size) → kept ++ (if b then x ∷ rest else rest) ≡ whole
    with_truth b t = ap (λ (z : Bool). kept ++ (if z then x ∷ rest else rest)) t ∙ at_item

    by : (b : Bool) → b ≡ h (focus x (i + 1) size) → more ≡ (if b then kept ++ x ∷ [] else kept) → more ++ rest ≡ whole
    by true t m = ap (λ (z : List Place). z ++ rest) m ∙ append_assoc kept (x ∷ []) rest ∙ with_truth true t
    by false t m = ap (λ (z : List Place). z ++ rest) m ∙ with_truth false t

pub kept_end : (h : Focus → Bool) (size at : ℕ) (nodes : List Place) (i : ℕ) (kept whole : List Place) → length nodes ≤ i → kept ++ kept_from h size at (drop i nodes) ≡ whole → kept ≡ whole
unfolding kept_from
kept_end h size at nodes i kept whole l is = sym (append-nil kept) ∙ ap (λ (z : List Place). kept ++ kept_from h size at z) (sym (drop_end nodes i l)) ∙ is

-- predicates in turn

pub turn_step : (tests : List Expr) (i : ℕ) (x d : Expr) (nodes given kept whole : List Place) → i < length tests → x ≡ get_or tests i d
    → kept_by_all (map holds_at (map quietly_of (drop i tests))) nodes ≡ whole → given ≡ nodes → kept ≡ kept_by (holds_at (quietly_of x)) given
    → kept_by_all (map holds_at (map quietly_of (drop (i + 1) tests))) kept ≡ whole
unfolding kept_by_all
turn_step tests i x d nodes given kept whole h e is g k =
    ap (kept_by_all (map holds_at (map quietly_of (drop (i + 1) tests)))) (k ∙ ap (kept_by (holds_at (quietly_of x))) g)
    ∙ ap (λ (z : List Expr). kept_by_all (map holds_at (map quietly_of z)) nodes) (sym (drop_item tests i x d h e)) ∙ is

pub turn_end : (tests : List Expr) (i : ℕ) (nodes whole : List Place) → length tests ≤ i → kept_by_all (map holds_at (map quietly_of (drop i tests))) nodes ≡ whole → nodes ≡ whole
unfolding kept_by_all
turn_end tests i nodes whole h is = ap (λ (z : List Expr). kept_by_all (map holds_at (map quietly_of z)) nodes) (sym (drop_end tests i h)) ∙ is

-- steps and paths

pub step_reached : (along : Axis) (wanted : Test) (qs : List Quietly) (n : Place) (found kept made : List Place) → is_path_form (stepped along wanted qs) ≡ true
    → found ≡ filter (passes_at along wanted) (axis_nodes along n) → kept ≡ kept_by_all (map holds_at qs) found
    → ((m : Place) → AreWithin m kept → made ≡ in_tree_order m kept) → made ≡ nodes_of_form (stepped along wanted qs) n
unfolding step_nodes
step_reached along wanted qs n found kept made h f k o =
    let same = k ∙ ap (kept_by_all (map holds_at qs)) f in
    o n (subst (AreWithin n) (sym same) (step_found_within along wanted (map holds_at qs) n)) ∙ ap (in_tree_order n) same ∙ ap (λ (g : Nodes). g n) (sym (stepped_is along wanted qs h).is)

pub slash_reached : (a b : Expr) (n : Place) (from found made : List Place) → is_path_form (slashed (quietly_of a) (quietly_of b)) ≡ true
    → from ≡ nodes_of_form (quietly_of a) n → found ≡ nodes_of_each (nodes_of_form (quietly_of b)) from
    → ((m : Place) → AreWithin m found → made ≡ in_tree_order m found) → made ≡ nodes_of_form (slashed (quietly_of a) (quietly_of b)) n
unfolding slash_nodes
slash_reached a b n from found made h f k o =
    let same = k ∙ ap (nodes_of_each (nodes_of_form (quietly_of b))) f in
    o n (subst (AreWithin n) (sym same) (each_within n (nodes_of_form (quietly_of b)) (nodes_of_form (quietly_of a) n) (stays b) (stays a n))) ∙ ap (in_tree_order n) same
    ∙ ap (λ (g : Nodes). g n) (sym (slashed_is (quietly_of a) (quietly_of b) h).is)

-- what is no step and no path

path_layer : (x : Layer) → ((a b : Expr) → x ≡ Slash a b → ⊥) → ((along : Axis) (wanted : Test) (tests : List Expr) → x ≡ Step along wanted tests → ⊥) → is_path_form (gives_quietly x) ≡ true → ⊥
unfolding is_path_form
path_layer (Or all) s t h = no_truth _ (any_no_path (map quietly_of all)) h
path_layer (And all) s t h = no_truth _ (all_no_path (map quietly_of all)) h
path_layer (General op a b) s t h = no_truth _ (compared_no_path op (quietly_of a) (quietly_of b)) h
path_layer (Call name args) s t h = no_truth _ (call_no_path (quiet_call name) name.local (map quietly_of args)) h
path_layer (Slash a b) s t h = s a b refl
path_layer (Step along wanted tests) s t h = t along wanted tests refl
path_layer x s t h = absurd cc

pub no_path : {G : Type 0} (e : Expr) → ((a b : Expr) → e ≡ expr.Slash a b → ⊥) → ((along : Axis) (wanted : Test) (tests : List Expr) → e ≡ expr.Step along wanted tests → ⊥) → is_path_form (quietly_of e) ≡ true → G
no_path e s t h =
    absurd (path_layer (out-Expr e) (λ a b p. s a b (sym (roll-out-Expr e) ∙ ap roll-Expr p ∙ rolls-Slash a b)) (λ along wanted tests p. t along wanted tests (sym (roll-out-Expr e) ∙ ap roll-Expr p ∙ rolls-Step along wanted tests))
    (subst (λ (q : Quietly). is_path_form q ≡ true) (quietly_out e) h))

pub if_ok : {A E : Type 0} (P Q : A → Type 0) (r : Result A E) → ((a : A) → P a → Q a) → IfOk r P → IfOk r Q
if_ok P Q (Ok a) f h = f a h
if_ok P Q (Err e) f h = h
