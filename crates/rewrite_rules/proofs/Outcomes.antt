-- How outcomes follow one another, and truth values of outcomes.
use Rattle.std.proofs.Common.{◌≡◌, ℕ, List, [], ◌∷◌, ◌++◌, refl, sym, ap, ◌∙◌, length}
use Rattle.std.specs.Prelude.{Bool, true, false, not, ◌==◌, Result, Ok, Err}
use Rattle.xdm_items.specs.FunctionArguments.Arguments.{and_then as result_then}
use Rattle.std.specs.Prelude.{Option, Some, None}
use Rattle.xt_names.specs.declared.codes.Code.{Code}
use Rattle.xdm_items.specs.FunctionArguments.Answers.{of_truth}
use Rattle.item_functions.specs.OnSequences.{empty_of, exists_of}
use Rattle.item_functions.specs.OnValues.{boolean_of, not_of}
use Rattle.item_functions.specs.Outcomes.{as_truth}
use Rattle.item_functions.specs.SequenceFunctions.Cardinality.{has_item, has_no_item}
use Rattle.xdm_items.specs.declared.items.Item.{Item}
use Rattle.xdm_items.specs.Truth.{truth_of, truth_of_atom}
use Rattle.xt_syntax.specs.declared.exprs.Expr.{Expr}
use Rattle.expr_meaning.specs.Outcomes.Outcome.{Outcome, Ends, Fails, Deep, and_then, step_outcome, for_each}
use Rattle.expr_meaning.specs.Env.{Env, Program}
use Rattle.expr_meaning.specs.Meaning.{outcome}
use Rattle.expr_meaning.specs.Logic.{truth_at, as_items}
use Rattle.rewrite_rules.specs.Known.{Known, constant, negation, emptiness, existence, truth, unknown}
use Rattle.rewrite_rules.specs.Known.{known, constant_of, fixed_truth}
use Rattle.rewrite_rules.specs.Tests.{bare, bare_of}
use Rattle.rewrite_rules.proofs.KnownMeans.{Means, known_means}
use Rattle.std.proofs.lemmas.List.{append-nil, append_assoc}

pub next_same : {A B : Type 0} (o : Outcome A) (f g : A → ℕ → Outcome B) →
    ((v : A) (k : ℕ) → f v k ≡ g v k) → and_then o f ≡ and_then o g
next_same (Ends v k) f g h = h v k
next_same (Fails c) f g h = refl
next_same Deep f g h = refl

pub next_assoc : {A B C : Type 0} (o : Outcome A) (f : A → ℕ → Outcome B)
    (g : B → ℕ → Outcome C) → and_then (and_then o f) g ≡ and_then o (λ v k. and_then (f v k) g)
next_assoc (Ends v k) f g = refl
next_assoc (Fails c) f g = refl
next_assoc Deep f g = refl

pub next_ends : {A : Type 0} (o : Outcome A) → and_then o (λ v k. Ends v k) ≡ o
next_ends (Ends v k) = refl
next_ends (Fails c) = refl
next_ends Deep = refl

-- a list that goes on with nothing
pub then_none : {A : Type 0} (o : Outcome (List A)) →
    and_then o (λ ys j. Ends (ys ++ []) j) ≡ o
then_none o = next_same o (λ ys j. Ends (ys ++ []) j) (λ ys j. Ends ys j)
    (λ ys j. ap (λ l. Ends l j) (append-nil ys)) ∙ next_ends o

-- a list that goes on with another one
abbrev pub joining : {A : Type 0} → List A → Outcome (List A) → Outcome (List A)
joining ys o = and_then o (λ zs i. Ends (ys ++ zs) i)

joining_twice : {A : Type 0} (xs ys : List A) (o : Outcome (List A)) →
    joining xs (joining ys o) ≡ joining (xs ++ ys) o
joining_twice xs ys (Ends zs k) = ap (λ l. Ends l k) (sym (append_assoc xs ys zs))
joining_twice xs ys (Fails c) = refl
joining_twice xs ys Deep = refl

joining_none : {A : Type 0} (o : Outcome (List A)) → joining [] o ≡ o
joining_none (Ends zs k) = refl
joining_none (Fails c) = refl
joining_none Deep = refl

joining_next : {A B : Type 0} (ys : List B) (o : Outcome A) (f : A → ℕ → Outcome (List B)) →
    joining ys (and_then o f) ≡ and_then o (λ v k. joining ys (f v k))
joining_next ys (Ends v k) f = refl
joining_next ys (Fails c) f = refl
joining_next ys Deep f = refl

pub each_append : {A B : Type 0} (f : A → ℕ → Outcome (List B)) (xs ys : List A) (k : ℕ) →
    for_each f (xs ++ ys) k
    ≡ and_then (for_each f xs k) (λ a j. joining a (for_each f ys j))
each_append f [] ys k = sym (joining_none (for_each f ys k))
each_append f (x ∷ xs) ys k =
    next_same (f x k) _ _ (λ a j.
    ap (joining a) (each_append f xs ys j)
    ∙ joining_next a (for_each f xs j) (λ b i. joining b (for_each f ys i))
    ∙ next_same (for_each f xs j) _ _ (λ b i. joining_twice a b (for_each f ys i))
    ∙ sym (next_assoc (for_each f xs j) (λ b i. Ends (a ++ b) i) (λ c i. joining c (for_each f ys i))))
    ∙ sym (next_assoc (f x k) (λ a j. joining a (for_each f xs j)) (λ c i. joining c (for_each f ys i)))

-- truth values
pub truth_back : (t : Bool) → truth_of (of_truth t) ≡ Ok t
unfolding truth_of truth_of_atom
truth_back t = refl

abbrev pub truth_in : Outcome (List Item) → Outcome Bool
truth_in o = and_then o (λ xs j. step_outcome (truth_of xs) j)

boolean_step : (v : Result Bool Code) (j : ℕ) →
    truth_in (step_outcome (as_truth v) j) ≡ step_outcome v j
unfolding truth_of truth_of_atom
boolean_step (Ok t) j = refl
boolean_step (Err c) j = refl

boolean_list : (xs : List Item) (j : ℕ) →
    truth_in (step_outcome (boolean_of xs) j) ≡ step_outcome (truth_of xs) j
unfolding boolean_of
boolean_list xs j = boolean_step (truth_of xs) j

pub boolean_truth : (o : Outcome (List Item)) →
    truth_in (and_then o (λ xs j. step_outcome (boolean_of xs) j)) ≡ truth_in o
boolean_truth o =
    next_assoc o (λ xs j. step_outcome (boolean_of xs) j) (λ xs j. step_outcome (truth_of xs) j)
    ∙ next_same o _ _ boolean_list

-- boolean() of a truth value's list, not() of it, and not() of empty() and of exists()
not_step : (v : Result Bool Code) (j : ℕ) → result_then (result_then v (λ t. Ok (of_truth t))) not_of
    ≡ result_then v (λ t. Ok (of_truth (not t)))
unfolding not_of truth_of truth_of_atom
not_step (Ok t) j = refl
not_step (Err c) j = refl

step_then : {A B : Type 0} (v : Result A Code) (f : A → Result B Code) (j : ℕ) →
    and_then (step_outcome v j) (λ x i. step_outcome (f x) i) ≡ step_outcome (result_then v f) j
step_then (Ok x) f j = refl
step_then (Err c) f j = refl

not_opened : (ys : List Item) → not_of ys ≡ result_then (truth_of ys) (λ t. Ok (of_truth (not t)))
unfolding not_of
not_opened ys = refl

not_boolean_list : (xs : List Item) → result_then (boolean_of xs) not_of ≡ not_of xs
unfolding boolean_of
not_boolean_list xs = not_step (truth_of xs) 0 ∙ sym (not_opened xs)

not_empty_list : (xs : List Item) → result_then (empty_of xs) not_of ≡ exists_of xs
unfolding empty_of exists_of not_of has_item has_no_item truth_of truth_of_atom
not_empty_list xs = refl

twice_not : (b : Bool) → not (not b) ≡ b
twice_not true = refl
twice_not false = refl

not_exists_list : (xs : List Item) → result_then (exists_of xs) not_of ≡ empty_of xs
unfolding empty_of exists_of not_of has_item has_no_item truth_of truth_of_atom
not_exists_list xs = ap (λ b. Ok (of_truth b)) (twice_not (length xs == 0))

-- an operator on what another one gives
pub unary_twice : (f g h : List Item → Result (List Item) Code) →
    ((xs : List Item) → result_then (f xs) g ≡ h xs) → (o : Outcome (List Item)) →
    and_then (and_then o (λ xs j. step_outcome (f xs) j)) (λ ys j. step_outcome (g ys) j)
    ≡ and_then o (λ xs j. step_outcome (h xs) j)
unary_twice f g h e o =
    next_assoc o (λ xs j. step_outcome (f xs) j) (λ ys j. step_outcome (g ys) j)
    ∙ next_same o _ _ (λ xs j. step_then (f xs) g j ∙ ap (λ v. step_outcome v j) (e xs))

pub not_boolean : (o : Outcome (List Item)) →
    and_then (and_then o (λ xs j. step_outcome (boolean_of xs) j)) (λ ys j. step_outcome (not_of ys) j)
    ≡ and_then o (λ xs j. step_outcome (not_of xs) j)
not_boolean = unary_twice boolean_of not_of not_of not_boolean_list

pub not_empty : (o : Outcome (List Item)) →
    and_then (and_then o (λ xs j. step_outcome (empty_of xs) j)) (λ ys j. step_outcome (not_of ys) j)
    ≡ and_then o (λ xs j. step_outcome (exists_of xs) j)
not_empty = unary_twice empty_of not_of exists_of not_empty_list

pub not_exists : (o : Outcome (List Item)) →
    and_then (and_then o (λ xs j. step_outcome (exists_of xs) j)) (λ ys j. step_outcome (not_of ys) j)
    ≡ and_then o (λ xs j. step_outcome (empty_of xs) j)
not_exists = unary_twice exists_of not_of empty_of not_exists_list

-- boolean() of an expression is its truth value as a list
as_truth_list : (v : Result Bool Code) (j : ℕ) →
    step_outcome (as_truth v) j ≡ as_items (step_outcome v j)
as_truth_list (Ok t) j = refl
as_truth_list (Err c) j = refl

boolean_items_list : (xs : List Item) (j : ℕ) →
    step_outcome (boolean_of xs) j ≡ as_items (step_outcome (truth_of xs) j)
unfolding boolean_of
boolean_items_list xs j = as_truth_list (truth_of xs) j

pub boolean_items : (o : Outcome (List Item)) →
    and_then o (λ xs j. step_outcome (boolean_of xs) j) ≡ as_items (truth_in o)
boolean_items o =
    next_same o _ _ boolean_items_list
    ∙ sym (next_assoc o (λ xs j. step_outcome (truth_of xs) j) (λ t j. Ends (of_truth t) j))

-- the truth value of true() and of false(), and of what boolean() takes
abbrev pub TruthAs : Program → Expr → Option Bool → Type 0
TruthAs p e None = Unit {0}
TruthAs p e (Some t) = (env : Env) (k : ℕ) → truth_at (outcome p e) env k ≡ Ends t k

truth_known : (p : Program) (e : Expr) (d : Known) → Means p d (outcome p e) →
    TruthAs p e (constant_of d)
truth_known p e (constant t) h = λ env k.
    ap truth_in (h env k) ∙ ap (λ v. step_outcome v k) (truth_back t)
truth_known p e (negation a) h = tt
truth_known p e (emptiness a) h = tt
truth_known p e (existence a) h = tt
truth_known p e (truth a) h = tt
truth_known p e unknown h = tt

pub fixed_means : (p : Program) (e : Expr) → TruthAs p e (fixed_truth e)
fixed_means p e = truth_known p e (known e) (known_means p e)

bare_known : (p : Program) (e : Expr) (d : Known) → Means p d (outcome p e) → (env : Env) (k : ℕ) →
    truth_at (outcome p (bare_of e d)) env k ≡ truth_at (outcome p e) env k
bare_known p e (truth a) h env k =
    sym (boolean_truth (outcome p a env k)) ∙ sym (ap truth_in (h env k))
bare_known p e (constant t) h env k = refl
bare_known p e (negation a) h env k = refl
bare_known p e (emptiness a) h env k = refl
bare_known p e (existence a) h env k = refl
bare_known p e unknown h env k = refl

pub bare_truth : (p : Program) (e : Expr) (env : Env) (k : ℕ) →
    truth_at (outcome p (bare e)) env k ≡ truth_at (outcome p e) env k
bare_truth p e env k = bare_known p e (known e) (known_means p e) env k
