-- Operators give atoms, which are no attributes.
use Rattle.std.proofs.Common.{◌≡◌, ℕ, zero, suc, ℤ, pos, ◌+ℤ◌, List, [], ◌∷◌, map, refl}
use Rattle.std.specs.Prelude.{Bool, true, false, Option, Some, None, Result, Ok, Err}
use Rattle.std.specs.declared.cmp.Ordering.{Ordering}
use Rattle.xt_names.specs.declared.codes.Code.{Code}
use Rattle.xt_names.specs.declared.kinds.ArithOp.{ArithOp}
use Rattle.xt_names.specs.declared.kinds.ArithOp.TheVariants.{Sub}
use Rattle.xt_names.specs.declared.kinds.AtomType.{AtomType}
use Rattle.xt_names.specs.declared.kinds.CompareOp.{CompareOp}
use Rattle.xt_types.specs.declared.types.SeqType.{SeqType}
use Rattle.xt_tree.specs.Place.{Place, order_of}
use Rattle.xt_atoms.specs.Arithmetic.{computed}
use Rattle.xt_atoms.specs.Casts.{cast_of}
use Rattle.xt_atoms.specs.Comparisons.{value_comparison}
use Rattle.xt_atoms.specs.declared.atoms.Atom.{Atom as AtomValue}
use Rattle.xdm_items.specs.declared.items.Item.{Item}
use Rattle.xdm_items.specs.FunctionArguments.Answers.{of_integer, of_truth}
use Rattle.operator_values.specs.LazySeq.Integers.{count_up, integers}
use Rattle.operator_values.specs.Comparisons.{truth_list, some_compare, general_value}
use Rattle.operator_values.specs.Comparisons.{single_value}
use Rattle.operator_values.specs.Nodes.{of_nodes, same_node, is_value, is_less, precedes}
use Rattle.operator_values.specs.Nodes.{before_value, after_value}
use Rattle.operator_values.specs.Numbers.{optional_number, of_numbers, number_list}
use Rattle.operator_values.specs.Numbers.{arithmetic_value, range_value, negated_value}
use Rattle.operator_values.specs.Numbers.{signed_value}
use Rattle.operator_values.specs.Operands.{atom_of, optional_atom, optional_node, of_both, of_one}
use Rattle.operator_values.specs.Types.{instance_value, cast_or_empty, cast_value}
use Rattle.operator_values.specs.Types.{castable_value}
use Rattle.expr_meaning.specs.Outcomes.Outcome.{Every}
use Rattle.expr_meaning.proofs.OutcomesLemmas.Relations.{every_append}
use Rattle.expr_laws.specs.Carrier.{OnValue}
use Rattle.meaning_laws.proofs.SoundValues.Arguments.{then_any}
use Rattle.expr_meaning.specs.Outcomes.Outcome.{Outcome, OnEnds, Anything, step_outcome, for_each}
use Rattle.expr_meaning.proofs.OutcomesLemmas.Relations.{nothing_known}
use Rattle.expr_meaning.proofs.OutcomesLemmas.Steps.{then_on}
use Rattle.expr_meaning.specs.SortMeaning.Sorted.{Placed, places}
use Rattle.expr_meaning.proofs.SortMeaning.Carried.{every_places}
use Rattle.expr_meaning.specs.Env.{Env, Meaning, at_focus}
use Rattle.expr_meaning.specs.Values.{unary, binary}
use Rattle.expr_meaning.specs.Logic.{as_items, either_of, chosen, truth_at}
use Rattle.expr_meaning.specs.Paths.{alone_if, kept_item, kept_at, kept, kept_in_turn, filter_of}
use Rattle.expr_laws.proofs.Steps.{step_known}
use Rattle.transform_meaning.specs.Making.{attribute_in}

abbrev pub IsPlain : Item → Type 0
IsPlain x = attribute_in x ≡ []

abbrev pub AllPlain : List Item → Type 0
AllPlain xs = Every IsPlain xs

-- truth values and numbers, whatever they are made of
truth_made : (r : Result Bool Code) → OnValue AllPlain (truth_list r)
truth_made (Ok t) = (refl, tt)
truth_made (Err code) = tt

number_made : (r : Result ℤ Code) → OnValue AllPlain (number_list r)
number_made (Ok n) = (refl, tt)
number_made (Err code) = tt

both_made : {A : Type 0} (value : A → A → Result (List Item) Code) →
    ((x y : A) → OnValue AllPlain (value x y)) → (a b : Option A) →
    OnValue AllPlain (of_both value a b)
both_made value h None b = tt
both_made value h (Some x) None = tt
both_made value h (Some x) (Some y) = h x y

one_made : {A : Type 0} (value : A → Result (List Item) Code) →
    ((x : A) → OnValue AllPlain (value x)) → (a : Option A) → OnValue AllPlain (of_one value a)
one_made value h None = tt
one_made value h (Some x) = h x

pub general_made : (op : CompareOp) (xs ys : List Item) → OnValue AllPlain (general_value op xs ys)
unfolding general_value
general_made op xs ys = truth_made (some_compare op (map atom_of xs) (map atom_of ys))

pub single_made : (op : CompareOp) (xs ys : List Item) → OnValue AllPlain (single_value op xs ys)
unfolding single_value
single_made op xs ys =
    then_any AllPlain (optional_atom xs) _ (λ a. then_any AllPlain (optional_atom ys) _
    (both_made (λ x y. truth_list (value_comparison op x y))
    (λ x y. truth_made (value_comparison op x y)) a))

nodes_made : (value : Place → Place → Result (List Item) Code) →
    ((n m : Place) → OnValue AllPlain (value n m)) → (xs ys : List Item) →
    OnValue AllPlain (of_nodes value xs ys)
nodes_made value h xs ys =
    then_any AllPlain (optional_node xs) _ (λ n. then_any AllPlain (optional_node ys) _
    (both_made value h n))

pub is_made : (xs ys : List Item) → OnValue AllPlain (is_value xs ys)
unfolding is_value
is_made xs ys = nodes_made (λ n m. Ok (of_truth (same_node n m))) (λ n m. (refl, tt)) xs ys

less_made : (o : Option Ordering) → OnValue AllPlain (is_less o)
less_made None = tt
less_made (Some order) = (refl, tt)

precedes_made : (n m : Place) → OnValue AllPlain (precedes n m)
unfolding precedes
precedes_made n m = less_made (order_of n m)

pub before_made : (xs ys : List Item) → OnValue AllPlain (before_value xs ys)
unfolding before_value
before_made xs ys = nodes_made precedes precedes_made xs ys

pub after_made : (xs ys : List Item) → OnValue AllPlain (after_value xs ys)
unfolding after_value
after_made xs ys = nodes_made (λ n m. precedes m n) (λ n m. precedes_made m n) xs ys

numbers_made : (value : ℤ → ℤ → Result (List Item) Code) →
    ((m n : ℤ) → OnValue AllPlain (value m n)) → (xs ys : List Item) →
    OnValue AllPlain (of_numbers value xs ys)
numbers_made value h xs ys =
    then_any AllPlain (optional_number xs) _ (λ m. then_any AllPlain (optional_number ys) _
    (both_made value h m))

counted_up : (n : ℤ) (k : ℕ) → AllPlain (count_up n k)
counted_up n zero = tt
counted_up n (suc k) = (refl, counted_up (n +ℤ pos 1) k)

integers_made : (m n : ℤ) → AllPlain (integers m n)
unfolding integers
integers_made m n = counted_up m _

pub range_made : (xs ys : List Item) → OnValue AllPlain (range_value xs ys)
unfolding range_value
range_made xs ys = numbers_made (λ m n. Ok (integers m n)) integers_made xs ys

pub arithmetic_made : (op : ArithOp) (xs ys : List Item) →
    OnValue AllPlain (arithmetic_value op xs ys)
unfolding arithmetic_value
arithmetic_made op xs ys =
    numbers_made (λ m n. number_list (computed op m n)) (λ m n. number_made (computed op m n)) xs ys

pub negated_made : (xs : List Item) → OnValue AllPlain (negated_value xs)
unfolding negated_value
negated_made xs =
    then_any AllPlain (optional_number xs) _
    (one_made (λ n. number_list (computed Sub (pos 0) n))
    (λ n. number_made (computed Sub (pos 0) n)))

pub signed_made : (xs : List Item) → OnValue AllPlain (signed_value xs)
unfolding signed_value
signed_made xs =
    then_any AllPlain (optional_number xs) _ (one_made (λ n. Ok (of_integer n)) (λ n. (refl, tt)))

-- lists of nodes

-- types
pub instance_made : (type : SeqType) (xs : List Item) → OnValue AllPlain (instance_value type xs)
unfolding instance_value
instance_made type xs = (refl, tt)

pub castable_made : (type : AtomType) (empty : Bool) (xs : List Item) →
    OnValue AllPlain (castable_value type empty xs)
unfolding castable_value
castable_made type empty xs = (refl, tt)

cast_plain : (type : AtomType) (empty : Bool) (o : Option AtomValue) →
    OnValue AllPlain (cast_or_empty type empty o)
cast_plain type true None = tt
cast_plain type false None = tt
cast_plain type empty (Some a) = then_any AllPlain (cast_of a type) _ (λ b. (refl, tt))

pub cast_made : (type : AtomType) (empty : Bool) (xs : List Item) →
    OnValue AllPlain (cast_value type empty xs)
unfolding cast_value
cast_made type empty xs = then_any AllPlain (optional_atom xs) _ (cast_plain type empty)

-- forms over operators
pub unary_plain : (value : List Item → Result (List Item) Code) →
    ((xs : List Item) → OnValue AllPlain (value xs)) → (a : Meaning) (e : Env) (k : ℕ) →
    OnEnds AllPlain (unary value a e k)
unary_plain value h a e k =
    then_on Anything AllPlain (a e k) _ (nothing_known (a e k)) (λ xs j u. step_known AllPlain (value xs) (h xs) j)

pub binary_plain : (value : List Item → List Item → Result (List Item) Code) →
    ((xs ys : List Item) → OnValue AllPlain (value xs ys)) → (a b : Meaning) (e : Env) (k : ℕ) →
    OnEnds AllPlain (binary value a b e k)
binary_plain value h a b e k =
    then_on Anything AllPlain (a e k) _ (nothing_known (a e k)) (λ xs j u.
    then_on Anything AllPlain (b e j) _ (nothing_known (b e j)) (λ ys i v.
    step_known AllPlain (value xs ys) (h xs ys) i))

pub truth_plain : (o : Outcome Bool) → OnEnds AllPlain (as_items o)
truth_plain o = then_on Anything AllPlain o _ (nothing_known o) (λ t j u. (refl, tt))

-- lists in a row, and choices
pub each_plain : {A : Type 0} (f : A → ℕ → Outcome (List Item)) →
    ((x : A) (k : ℕ) → OnEnds AllPlain (f x k)) → (xs : List A) (k : ℕ) →
    OnEnds AllPlain (for_each f xs k)
each_plain f h [] k = tt
each_plain f h (x ∷ xs) k =
    then_on AllPlain AllPlain (f x k) _ (h x k) (λ ys j a.
    then_on AllPlain AllPlain (for_each f xs j) _ (each_plain f h xs j)
    (λ zs i b. every_append IsPlain ys zs a b))

pub either_plain : (test m n : Meaning) (e : Env) (k : ℕ) →
    ((j : ℕ) → OnEnds AllPlain (m e j)) → ((j : ℕ) → OnEnds AllPlain (n e j)) →
    OnEnds AllPlain (either_of test m n e k)
either_plain test m n e k h g =
    then_on Anything AllPlain (truth_at test e k) _ (nothing_known (truth_at test e k)) (λ t j u. by t j)
  where
    by : (t : Bool) (j : ℕ) → OnEnds AllPlain (chosen m n e t j)
    by true j = h j
    by false j = g j

-- predicates keep what is known of each item
alone_plain : (x : Item) → IsPlain x → (b : Bool) (k : ℕ) → OnEnds AllPlain (alone_if x b k)
alone_plain x h true k = (h, tt)
alone_plain x h false k = tt

item_plain : (test : Meaning) (env : Env) (p : Placed Item) (k : ℕ) → IsPlain p.value →
    OnEnds AllPlain (kept_item test env p k)
item_plain test env p k h =
    then_on Anything AllPlain (test (at_focus env p) k) _ (nothing_known _) (λ ys j u.
    then_on Anything AllPlain (step_outcome (kept_at p.place ys) j) (alone_if p.value)
    (nothing_known (step_outcome (kept_at p.place ys) j)) (λ b i v. alone_plain p.value h b i))

placed_plain : (test : Meaning) (env : Env) (ps : List (Placed Item)) →
    Every (λ p. IsPlain p.value) ps → (k : ℕ) → OnEnds AllPlain (for_each (kept_item test env) ps k)
placed_plain test env [] h k = tt
placed_plain test env (p ∷ ps) h k =
    then_on AllPlain AllPlain (kept_item test env p k) _ (item_plain test env p k h.0) (λ ys j a.
    then_on AllPlain AllPlain (for_each (kept_item test env) ps j) _ (placed_plain test env ps h.1 j)
    (λ zs i b. every_append IsPlain ys zs a b))

pub turn_plain : (tests : List Meaning) (env : Env) (xs : List Item) → AllPlain xs → (k : ℕ) →
    OnEnds AllPlain (kept_in_turn tests env xs k)
turn_plain [] env xs h k = h
turn_plain (test ∷ tests) env xs h k =
    then_on AllPlain AllPlain (kept test env xs k) _
    (then_on (Every (λ p. IsPlain p.value)) AllPlain (step_outcome (places xs) k) _
    (every_places IsPlain xs k h) (λ ps j all. placed_plain test env ps all j))
    (λ ys j all. turn_plain tests env ys all j)

pub filter_plain : (of : Meaning) (tests : List Meaning) (env : Env) (k : ℕ) →
    OnEnds AllPlain (of env k) → OnEnds AllPlain (filter_of of tests env k)
filter_plain of tests env k h =
    then_on AllPlain AllPlain (of env k) (kept_in_turn tests env) h (λ xs j all. turn_plain tests env xs all j)
