-- Operators and steps give sound values of sound values.
use Rattle.std.proofs.Common.{◌≡◌, ℕ, zero, suc, ℤ, pos, ◌+ℤ◌, List, [], ◌∷◌, ◌++◌, map, refl, arith}
use Rattle.std.proofs.lemmas.Bool.{and_from}
use Rattle.std.specs.Prelude.{Bool, true, false, not, reverse, Option, Some, None, Result, Ok, Err}
use Rattle.std.specs.Prelude.{if◌then◌else◌}
use Rattle.std.specs.declared.cmp.Ordering.{Ordering}
use Rattle.std.specs.List.{filter, list_all, Contains}
use Rattle.std.specs.Ordering.{eq_by_cmp}
use Rattle.xt_names.specs.declared.codes.Code.{Code}
use Rattle.xt_names.specs.declared.codes.Code.TheVariants.{Dynamic}
use Rattle.xt_names.specs.declared.codes.DynamicCode.TheVariants.{XPDY0050}
use Rattle.xt_names.specs.declared.kinds.ArithOp.{ArithOp}
use Rattle.xt_names.specs.declared.kinds.ArithOp.TheVariants.{Sub}
use Rattle.xt_names.specs.declared.kinds.AtomType.{AtomType}
use Rattle.xt_names.specs.declared.kinds.CompareOp.{CompareOp}
use Rattle.xt_types.specs.declared.axes.Axis.{Axis}
use Rattle.xt_types.specs.declared.node_tests.Test.{Test}
use Rattle.xt_types.specs.declared.types.SeqType.{SeqType}
use Rattle.xt_names.proofs.ListLemmas.{further}
use Rattle.xt_tree.specs.Place.{Place, order_of, subtree_at, has_attribute}
use Rattle.xt_tree.specs.declared.trees.Tree.{Tree}
use Rattle.xt_tree.proofs.WalkPlaces.{walk_is_exact}
use Rattle.xt_tree.specs.Walk.{Spot, spots_of}
use Rattle.node_tests.specs.Tests.{passes_at}
use Rattle.node_axes.specs.Axes.{axis_nodes, in_axis_order, is_reverse, on_axis, spot_of, place_at}
use Rattle.doc_set.specs.Sets.{is_document}
use Rattle.xt_atoms.specs.Arithmetic.{computed}
use Rattle.xt_atoms.specs.Casts.{cast_of, wrong_type}
use Rattle.xt_atoms.specs.Comparisons.{value_comparison}
use Rattle.xt_atoms.specs.declared.atoms.Atom.{Atom as AtomValue}
use Rattle.xdm_items.specs.Matching.{matches_type}
use Rattle.xdm_items.specs.declared.items.Item.{Item}
use Rattle.xdm_items.specs.declared.items.Item.TheVariants.{Node, Atom}
use Rattle.xdm_items.specs.FunctionArguments.Arguments.{and_then}
use Rattle.xdm_items.specs.FunctionArguments.Answers.{of_integer, of_truth}
use Rattle.lazy_seq.specs.Integers.{count_up, integers}
use Rattle.lazy_seq.specs.Orders.{in_document_order, item_cmp, stands_before}
use Rattle.operator_values.specs.Comparisons.{truth_list, some_compare, general_value}
use Rattle.operator_values.specs.Comparisons.{single_value}
use Rattle.operator_values.specs.Nodes.{of_nodes, same_node, is_value, is_less, precedes}
use Rattle.operator_values.specs.Nodes.{before_value, after_value, is_node, only_nodes, of_sets}
use Rattle.operator_values.specs.Nodes.{is_among, union_value, intersect_value, except_value}
use Rattle.operator_values.specs.Numbers.{optional_number, of_numbers, number_list}
use Rattle.operator_values.specs.Numbers.{arithmetic_value, range_value, negated_value}
use Rattle.operator_values.specs.Numbers.{signed_value}
use Rattle.operator_values.specs.Operands.{atom_of, optional_atom, optional_node, of_both, of_one}
use Rattle.operator_values.specs.Types.{instance_value, treated_value, cast_or_empty, cast_value}
use Rattle.operator_values.specs.Types.{castable_value}
use Rattle.expr_meaning.specs.Outcomes.Outcome.{Every}
use Rattle.expr_meaning.proofs.OutcomesLemmas.Relations.{every_append, every_map}
use Rattle.expr_meaning.specs.Paths.{root_place, document_root, step_items}
use Rattle.expr_laws.specs.Carrier.{OnValue}
use Rattle.meaning_laws.specs.SoundValues.Sound.{IsSound}
use Rattle.meaning_laws.proofs.SoundValues.Lists.{OnSome, every_filter, every_reverse, every_dedup, every_order}
use Rattle.meaning_laws.proofs.SoundValues.Trees.{IsSoundAtom, tree_part, value_atom}
use Rattle.meaning_laws.proofs.SoundValues.Arguments.{AllSound, IsSoundPlace, then_known, then_any, cast_known}
use Rattle.xt_names.specs.Lists.{stable_order}

-- truth values and numbers, whatever they are made of
truth_made : (r : Result Bool Code) → OnValue AllSound (truth_list r)
truth_made (Ok t) = (refl, tt)
truth_made (Err code) = tt

number_made : (r : Result ℤ Code) → OnValue AllSound (number_list r)
number_made (Ok n) = (refl, tt)
number_made (Err code) = tt

both_made : {A : Type 0} (value : A → A → Result (List Item) Code) →
    ((x y : A) → OnValue AllSound (value x y)) → (a b : Option A) →
    OnValue AllSound (of_both value a b)
both_made value h None b = tt
both_made value h (Some x) None = tt
both_made value h (Some x) (Some y) = h x y

one_made : {A : Type 0} (value : A → Result (List Item) Code) →
    ((x : A) → OnValue AllSound (value x)) → (a : Option A) → OnValue AllSound (of_one value a)
one_made value h None = tt
one_made value h (Some x) = h x

pub general_made : (op : CompareOp) (xs ys : List Item) → OnValue AllSound (general_value op xs ys)
unfolding general_value
general_made op xs ys = truth_made (some_compare op (map atom_of xs) (map atom_of ys))

pub single_made : (op : CompareOp) (xs ys : List Item) → OnValue AllSound (single_value op xs ys)
unfolding single_value
single_made op xs ys =
    then_any AllSound (optional_atom xs) _ (λ a. then_any AllSound (optional_atom ys) _
    (both_made (λ x y. truth_list (value_comparison op x y))
    (λ x y. truth_made (value_comparison op x y)) a))

nodes_made : (value : Place → Place → Result (List Item) Code) →
    ((n m : Place) → OnValue AllSound (value n m)) → (xs ys : List Item) →
    OnValue AllSound (of_nodes value xs ys)
nodes_made value h xs ys =
    then_any AllSound (optional_node xs) _ (λ n. then_any AllSound (optional_node ys) _
    (both_made value h n))

pub is_made : (xs ys : List Item) → OnValue AllSound (is_value xs ys)
unfolding is_value
is_made xs ys = nodes_made (λ n m. Ok (of_truth (same_node n m))) (λ n m. (refl, tt)) xs ys

less_made : (o : Option Ordering) → OnValue AllSound (is_less o)
less_made None = tt
less_made (Some order) = (refl, tt)

precedes_made : (n m : Place) → OnValue AllSound (precedes n m)
unfolding precedes
precedes_made n m = less_made (order_of n m)

pub before_made : (xs ys : List Item) → OnValue AllSound (before_value xs ys)
unfolding before_value
before_made xs ys = nodes_made precedes precedes_made xs ys

pub after_made : (xs ys : List Item) → OnValue AllSound (after_value xs ys)
unfolding after_value
after_made xs ys = nodes_made (λ n m. precedes m n) (λ n m. precedes_made m n) xs ys

numbers_made : (value : ℤ → ℤ → Result (List Item) Code) →
    ((m n : ℤ) → OnValue AllSound (value m n)) → (xs ys : List Item) →
    OnValue AllSound (of_numbers value xs ys)
numbers_made value h xs ys =
    then_any AllSound (optional_number xs) _ (λ m. then_any AllSound (optional_number ys) _
    (both_made value h m))

counted_up : (n : ℤ) (k : ℕ) → AllSound (count_up n k)
counted_up n zero = tt
counted_up n (suc k) = (refl, counted_up (n +ℤ pos 1) k)

integers_made : (m n : ℤ) → AllSound (integers m n)
unfolding integers
integers_made m n = counted_up m _

pub range_made : (xs ys : List Item) → OnValue AllSound (range_value xs ys)
unfolding range_value
range_made xs ys = numbers_made (λ m n. Ok (integers m n)) integers_made xs ys

pub arithmetic_made : (op : ArithOp) (xs ys : List Item) →
    OnValue AllSound (arithmetic_value op xs ys)
unfolding arithmetic_value
arithmetic_made op xs ys =
    numbers_made (λ m n. number_list (computed op m n)) (λ m n. number_made (computed op m n)) xs ys

pub negated_made : (xs : List Item) → OnValue AllSound (negated_value xs)
unfolding negated_value
negated_made xs =
    then_any AllSound (optional_number xs) _
    (one_made (λ n. number_list (computed Sub (pos 0) n))
    (λ n. number_made (computed Sub (pos 0) n)))

pub signed_made : (xs : List Item) → OnValue AllSound (signed_value xs)
unfolding signed_value
signed_made xs =
    then_any AllSound (optional_number xs) _ (one_made (λ n. Ok (of_integer n)) (λ n. (refl, tt)))

-- lists of nodes
pub order_kept : (xs : List Item) → AllSound xs → AllSound (in_document_order xs)
order_kept xs h =
    every_dedup IsSound (eq_by_cmp item_cmp) (stable_order stands_before xs)
    (every_order IsSound stands_before xs h)

only_kept : (xs : List Item) → AllSound xs → OnValue AllSound (only_nodes xs)
only_kept xs h = by (list_all is_node xs)
  where
    by : (b : Bool) → OnValue AllSound (if b then Ok xs else Err wrong_type)
    by true = h
    by false = tt

sets_kept : (value : List Item → List Item → List Item) →
    ((xs ys : List Item) → AllSound xs → AllSound ys → AllSound (value xs ys)) →
    (xs ys : List Item) → AllSound xs → AllSound ys → OnValue AllSound (of_sets value xs ys)
sets_kept value h xs ys g f =
    then_known AllSound AllSound (only_nodes xs) _ (only_kept xs g) (λ ns gn.
    then_known AllSound AllSound (only_nodes ys) _ (only_kept ys f) (λ ms gm.
    order_kept (value ns ms) (h ns ms gn gm)))

pub union_kept : (xs ys : List Item) → AllSound xs → AllSound ys →
    OnValue AllSound (union_value xs ys)
unfolding union_value
union_kept xs ys g h = sets_kept (λ ns ms. ns ++ ms) (λ ns ms. every_append IsSound ns ms) xs ys g h

pub intersect_kept : (xs ys : List Item) → AllSound xs → AllSound ys →
    OnValue AllSound (intersect_value xs ys)
unfolding intersect_value
intersect_kept xs ys g h =
    sets_kept (λ ns ms. filter (is_among ms) ns)
    (λ ns ms f e. every_filter IsSound (is_among ms) ns f) xs ys g h

pub except_kept : (xs ys : List Item) → AllSound xs → AllSound ys →
    OnValue AllSound (except_value xs ys)
unfolding except_value
except_kept xs ys g h =
    sets_kept (λ ns ms. filter (λ x. not (is_among ms x)) ns)
    (λ ns ms f e. every_filter IsSound (λ x. not (is_among ms x)) ns f) xs ys g h

-- types
pub instance_made : (type : SeqType) (xs : List Item) → OnValue AllSound (instance_value type xs)
unfolding instance_value
instance_made type xs = (refl, tt)

pub treated_kept : (type : SeqType) (xs : List Item) → AllSound xs →
    OnValue AllSound (treated_value type xs)
unfolding treated_value
treated_kept type xs h = by (matches_type type xs)
  where
    by : (b : Bool) → OnValue AllSound (if b then Ok xs else Err (Dynamic XPDY0050))
    by true = h
    by false = tt

pub castable_made : (type : AtomType) (empty : Bool) (xs : List Item) →
    OnValue AllSound (castable_value type empty xs)
unfolding castable_value
castable_made type empty xs = (refl, tt)

optional_atom_known : (xs : List Item) → AllSound xs →
    OnValue (OnSome IsSoundAtom) (optional_atom xs)
unfolding optional_atom
optional_atom_known [] h = tt
optional_atom_known (x ∷ []) h = value_atom x h.0
optional_atom_known (x ∷ y ∷ xs) h = tt

atom_listed : (r : Result AtomValue Code) → OnValue IsSoundAtom r →
    OnValue AllSound (and_then r (λ b. Ok (Atom b ∷ [])))
atom_listed (Ok a) h = (h, tt)
atom_listed (Err code) h = tt

cast_one : (type : AtomType) (empty : Bool) (o : Option AtomValue) → OnSome IsSoundAtom o →
    OnValue AllSound (cast_or_empty type empty o)
cast_one type true None h = tt
cast_one type false None h = tt
cast_one type empty (Some a) h = atom_listed (cast_of a type) (cast_known a type h)

pub cast_kept : (type : AtomType) (empty : Bool) (xs : List Item) → AllSound xs →
    OnValue AllSound (cast_value type empty xs)
unfolding cast_value
cast_kept type empty xs h =
    then_known (OnSome IsSoundAtom) AllSound (optional_atom xs) (cast_or_empty type empty)
    (optional_atom_known xs h) (cast_one type empty)

-- roots and steps stay in the tree
pub root_kept : (x : Item) → IsSound x → OnValue AllSound (document_root x)
root_kept (Atom a) h = tt
root_kept (Node n) h = by (is_document n.tree)
  where
    by : (b : Bool) → OnValue AllSound
        (if b then Ok (Node (root_place n) ∷ []) else Err (Dynamic XPDY0050))
    by true = (and_from _ _ (tree_part n h) refl, tt)
    by false = tt

-- every spot of the walk over a tree is a place there
every_contained : {A : Type 0} (P : A → Type 0) (xs : List A) → ((x : A) → Contains xs x → P x) →
    Every P xs
every_contained P [] h = tt
every_contained P (x ∷ xs) h =
    (h x (0, omega arith, refl), every_contained P xs (λ y c. h y (further x y xs c)))

abbrev pub IsSpot : Tree → Spot → Type 0
IsSpot t s = has_attribute (subtree_at t s.0) s.1 ≡ true

pub all_spots : (t : Tree) → Every (IsSpot t) (spots_of t)
all_spots t = every_contained (IsSpot t) (spots_of t) (λ s c. (walk_is_exact t s.0 s.1).0 c)

pub all_placed : (n : Place) → IsSoundPlace n → (ss : List Spot) → Every (IsSpot n.tree) ss →
    Every IsSoundPlace (map (place_at n) ss)
all_placed n h [] g = tt
all_placed n h (s ∷ ss) g = (and_from _ _ (tree_part n h) g.0, all_placed n h ss g.1)

ordered_spots : (t : Tree) (axis : Axis) (ss : List Spot) → Every (IsSpot t) ss →
    Every (IsSpot t) (in_axis_order axis ss)
unfolding in_axis_order
ordered_spots t axis ss h = by (is_reverse axis)
  where
    by : (b : Bool) → Every (IsSpot t) (if b then reverse ss else ss)
    by true = every_reverse (IsSpot t) ss h
    by false = h

pub axis_kept : (axis : Axis) (n : Place) → IsSoundPlace n → Every IsSoundPlace (axis_nodes axis n)
unfolding axis_nodes
axis_kept axis n h =
    let found = filter (on_axis axis (spot_of n)) (spots_of n.tree) in
    all_placed n h (in_axis_order axis found)
    (ordered_spots n.tree axis found
    (every_filter (IsSpot n.tree) (on_axis axis (spot_of n)) (spots_of n.tree) (all_spots n.tree)))

pub step_kept : (axis : Axis) (wanted : Test) (x : Item) → IsSound x →
    OnValue AllSound (step_items axis wanted x)
step_kept axis wanted (Atom a) h = tt
step_kept axis wanted (Node n) h =
    every_map IsSound Node (filter (passes_at axis wanted) (axis_nodes axis n))
    (every_filter IsSoundPlace (passes_at axis wanted) (axis_nodes axis n) (axis_kept axis n h))
