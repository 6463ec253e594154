-- What has a truth value, and what decides as a predicate.
use Rattle.std.proofs.Common.{◌≡◌, ℕ, pos, List, [], ◌∷◌, map, refl, ap, sym, ◌∙◌, eq-eqb, arith}
use Rattle.std.specs.Prelude.{Bool, true, false, nat_eq, if◌then◌else◌, Ok}
use Rattle.std.specs.Bool.{beq}
use Rattle.std.specs.List.{list_all, list_any}
use Rattle.std.specs.Ordering.{int_eq}
use Rattle.std.proofs.lemmas.Bool.{and_parts}
use Rattle.std.proofs.lemmas.Bool.Decides.{nat_tests, Decides-int_eq}
use Rattle.xt_tree.specs.Place.{Place}
use Rattle.xt_atoms.specs.Comparisons.{holds, general_comparison, value_comparison}
use Rattle.xdm_items.specs.declared.items.Item.TheVariants.{Node}
use Rattle.xdm_items.specs.Truth.{truth_of, truth_of_atom}
use Rattle.node_axes.specs.StepWalks.Nodes.{Focus}
use Rattle.quiet_meaning.specs.Values.{compares, is_true as holds_where_true}
use Rattle.quiet_meaning.specs.Quietly.{Quietly, integer, last}
use Rattle.quiet_meaning.specs.Quietly.{attribute, step, path, condition, conjunction, other}
use Rattle.quiet_meaning.specs.Quietly.{is_truth, is_predicate, holds_at, has_some, any_of, all_of}
use Rattle.quiet_meaning.specs.Quietly.{is_conjunction, holds_all}
use Rattle.expr_meaning.specs.Outcomes.Outcome.{Outcome, Ends, and_then, step_outcome}
use Rattle.expr_meaning.specs.Env.{Env, Meaning}
use Rattle.expr_meaning.specs.Logic.{truth_at, first_of, as_items, or_of, and_of}
use Rattle.expr_meaning.specs.Paths.{kept_at}
use Rattle.walk_laws.specs.NodeOrders.Counted.{IsCountable}
use Rattle.walk_laws.specs.QuietValues.Given.{given_at, has_value, at_node}

-- a meaning is what the form gives
abbrev pub Agrees : Quietly → Meaning → Type 0
Agrees q m = has_value q ≡ true → (env : Env) (f : Focus) → IsCountable f.node → (k : ℕ) →
    m (at_node env f) k ≡ Ends (given_at q f) k

abbrev pub AllAgree : List Quietly → List Meaning → Type 0
AllAgree [] [] = Unit {0}
AllAgree [] (m ∷ ms) = ⊥
AllAgree (q ∷ qs) [] = ⊥
AllAgree (q ∷ qs) (m ∷ ms) = Agrees q m × AllAgree qs ms

-- what has no place in a quiet predicate
pub no_value : has_value other ≡ false
unfolding has_value
no_value = refl

pub other_agrees : (m : Meaning) → Agrees other m
other_agrees m h = absurd (nothing (sym no_value ∙ h))
  where
    nothing : false ≡ true → ⊥
    nothing e = absurd cc

pub truth_has_value : (q : Quietly) → is_truth q ≡ true → has_value q ≡ true
unfolding is_truth has_value
truth_has_value (attribute g) h = refl
truth_has_value (step g) h = refl
truth_has_value (path g) h = refl
truth_has_value (condition c) h = refl
truth_has_value q h = absurd cc

pub predicate_has_value : (q : Quietly) → is_predicate q ≡ true → has_value q ≡ true
unfolding is_predicate has_value
predicate_has_value (integer n) h = refl
predicate_has_value last h = refl
predicate_has_value (attribute g) h = refl
predicate_has_value (step g) h = refl
predicate_has_value (path g) h = refl
predicate_has_value (condition c) h = refl
predicate_has_value q h = absurd cc

-- a list of nodes is true where there is one
pub nodes_true : (ns : List Place) → truth_of (map Node ns) ≡ Ok (has_some ns)
unfolding truth_of
nodes_true [] = refl
nodes_true (n ∷ ns) = refl

pub truth_given : (q : Quietly) (f : Focus) → is_truth q ≡ true →
    truth_of (given_at q f) ≡ Ok (holds_at q f)
unfolding is_truth given_at holds_at truth_of truth_of_atom
truth_given (attribute g) f h = nodes_true (g f.node)
truth_given (step g) f h = nodes_true (g f.node)
truth_given (path g) f h = nodes_true (g f.node)
truth_given (condition c) f h = refl
truth_given q f h = absurd cc

-- predicates

nodes_keep : (at : ℕ) (ns : List Place) → kept_at at (map Node ns) ≡ Ok (has_some ns)
unfolding truth_of
nodes_keep at [] = refl
nodes_keep at (n ∷ []) = refl
nodes_keep at (n ∷ m ∷ ns) = refl

same_number : (a b : ℕ) → int_eq (pos a) (pos b) ≡ nat_eq a b
same_number a b =
    agree (int_eq (pos a) (pos b)) (nat_eq a b)
    (λ h. (let e : pos a ≡ pos b = (Decides-int_eq (pos a) (pos b)).0 h in eq-eqb a b cc))
    (λ h. (let e : a ≡ b = grind (arith, nat_tests) in
    (Decides-int_eq (pos a) (pos b)).1 (ap pos e)))
  where
    agree : (s t : Bool) → (s ≡ true → t ≡ true) → (t ≡ true → s ≡ true) → s ≡ t
    agree true t f g = sym (f refl)
    agree false true f g = g refl
    agree false false f g = refl

pub predicate_keeps : (q : Quietly) (f : Focus) → is_predicate q ≡ true →
    kept_at f.position (given_at q f) ≡ Ok (holds_at q f)
unfolding is_predicate given_at holds_at truth_of truth_of_atom compares holds_where_true holds
    general_comparison value_comparison
predicate_keeps (integer n) f h = refl
predicate_keeps last f h = ap Ok (same_number f.position f.size)
predicate_keeps (attribute g) f h = nodes_keep f.position (g f.node)
predicate_keeps (step g) f h = nodes_keep f.position (g f.node)
predicate_keeps (path g) f h = nodes_keep f.position (g f.node)
predicate_keeps (condition c) f h = refl
predicate_keeps q f h = absurd cc

-- truth values in turn

pub truth_agrees : (q : Quietly) (m : Meaning) → Agrees q m → is_truth q ≡ true → (env : Env)
    (f : Focus) → IsCountable f.node → (k : ℕ) → truth_at m (at_node env f) k ≡ Ends (holds_at q f) k
truth_agrees q m a t env f c k =
    ap (λ o. and_then o (λ xs j. step_outcome (truth_of xs) j)) (a (truth_has_value q t) env f c k)
    ∙ ap (λ r. step_outcome r k) (truth_given q f t)

-- the first that is true, and the first that is false
abbrev decided : Bool → Focus → List Quietly → Bool
decided true f qs = list_any (λ q. holds_at q f) qs
decided false f qs = list_all (λ q. holds_at q f) qs

turn : (d t : Bool) (f : Focus) (q : Quietly) (qs : List Quietly) → holds_at q f ≡ t → (k : ℕ)
    (rest : ℕ → Outcome Bool) → ((j : ℕ) → rest j ≡ Ends (decided d f qs) j) →
    and_then (Ends t k) (λ u j. if beq u d then Ends u j else rest j) ≡ Ends (decided d f (q ∷ qs)) k
turn true true f q qs e k rest h = rw e refl
turn true false f q qs e k rest h = rw e (h k)
turn false true f q qs e k rest h = rw e (h k)
turn false false f q qs e k rest h = rw e refl

pub first_agrees : (d : Bool) (qs : List Quietly) (ms : List Meaning) → AllAgree qs ms →
    list_all is_truth qs ≡ true → (env : Env) (f : Focus) → IsCountable f.node → (k : ℕ) →
    first_of d ms (at_node env f) k ≡ Ends (decided d f qs) k
first_agrees true [] [] a t env f c k = refl
first_agrees false [] [] a t env f c k = refl
first_agrees d [] (m ∷ ms) a t env f c k = absurd a
first_agrees d (q ∷ qs) [] a t env f c k = absurd a
first_agrees d (q ∷ qs) (m ∷ ms) a t env f c k =
    let p = and_parts (is_truth q) (list_all is_truth qs) t in
    ap (λ o. and_then o (λ u j. if beq u d then Ends u j else first_of d ms (at_node env f) j))
    (truth_agrees q m a.0 p.0 env f c k)
    ∙ turn d (holds_at q f) f q qs refl k (first_of d ms (at_node env f))
    (λ j. first_agrees d qs ms a.1 p.1 env f c j)

any_truths : (qs : List Quietly) → has_value (any_of qs) ≡ true → list_all is_truth qs ≡ true
unfolding has_value
any_truths qs h = by (list_all is_truth qs) refl h
  where
    by : (b : Bool) → list_all is_truth qs ≡ b →
        has_value (if b then condition (λ f. list_any (λ q. holds_at q f) qs) else other) ≡ true →
        list_all is_truth qs ≡ true
    by true e g = e
    by false e g = absurd cc

all_truths : (qs : List Quietly) → has_value (all_of qs) ≡ true → list_all is_truth qs ≡ true
unfolding has_value
all_truths qs h = by (list_all is_truth qs) refl (is_conjunction qs) h
  where
    by : (b : Bool) → list_all is_truth qs ≡ b → (d : Bool) →
        has_value (if b then condition (holds_all qs) else if d then conjunction (holds_all qs)
        else other) ≡ true → list_all is_truth qs ≡ true
    by true e d g = e
    by false e true g = absurd cc
    by false e false g = absurd cc

pub or_agrees : (qs : List Quietly) (ms : List Meaning) → AllAgree qs ms →
    Agrees (any_of qs) (or_of ms)
unfolding given_at
or_agrees qs ms a h env f c k =
    let t = any_truths qs h in
    ap as_items (first_agrees true qs ms a t env f c k) ∙ rw t refl

pub and_agrees : (qs : List Quietly) (ms : List Meaning) → AllAgree qs ms →
    Agrees (all_of qs) (and_of ms)
unfolding given_at
and_agrees qs ms a h env f c k =
    let t = all_truths qs h in
    ap as_items (first_agrees false qs ms a t env f c k) ∙ rw t refl
