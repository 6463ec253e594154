-- What the function `last` gives.
use Rattle.std.proofs.Common.{◌≡◌, ◌-◌, ◌<◌, ◌≤◌, ◌^◌, ℕ, zero, suc, List, [], ◌∷◌, ◌++◌, length, refl, ap, sym}
use Rattle.std.proofs.Common.{◌∙◌, subst, map, drop, arith}
use Rattle.std.proofs.lemmas.Bool.{lt-ltb}
use Rattle.std.specs.Prelude.{Bool, true, false, not, if◌then◌else◌, Option, Some, None, Ok, Err, is_some}
use Rattle.std.specs.Prelude.{codes, pos, ℤ, ◌-ℤ◌}
use Rattle.std.specs.List.{list_any, list_all}
use Rattle.xt_names.specs.declared.kinds.ArithOp.TheVariants.{Sub}
use Rattle.xt_names.specs.declared.kinds.CompareOp.TheVariants.{Eq}
use Rattle.xt_names.specs.declared.codes.Code.TheVariants.{Dynamic}
use Rattle.xt_names.specs.declared.codes.DynamicCode.TheVariants.{FOAR0002}
use Rattle.xt_names.specs.declared.names.ExprName.{ExprName}
use Rattle.xt_types.specs.declared.node_tests.NameTest.TheVariants.{Any}
use Rattle.xt_types.specs.declared.node_tests.Test.TheVariants.{Attr as AttrTest, Node as NodeTest}
use Rattle.xt_types.specs.declared.types.ItemType.TheVariants.{Atomic}
use Rattle.xt_atoms.specs.declared.atoms.Atom.{Atom as AtomValue}
use Rattle.xt_atoms.specs.declared.atoms.Atom.TheVariants as atom
use Rattle.xt_atoms.specs.Arithmetic.{computed, ranged, integer_operand}
use Rattle.xt_atoms.specs.Comparisons.{value_comparison, name_comparison, same_name as same_name_of_atoms}
use Rattle.xt_tree.specs.Place.{subtree_of}
use Rattle.xt_tree.specs.Sound.{names_differ}
use Rattle.xt_tree.specs.declared.attributes.Attribute.{Attribute}
use Rattle.xt_tree.specs.declared.trees.Tree.{Tree}
use Rattle.xt_tree.specs.declared.trees.Tree.TheVariants.{Doc, Elem, Text, Comment, Pi, Attr}
use Rattle.node_tests.specs.Tests.{tree_passes, passes_test}
use Rattle.xdm_items.specs.Conversion.{converted, matched, prepared, converted_items, converted_item}
use Rattle.xdm_items.specs.Conversion.{converted_atom, with_item}
use Rattle.xt_names.specs.declared.kinds.AtomType.TheVariants as kind
use Rattle.std.proofs.lemmas.Int.{ints}
use Rattle.xdm_items.specs.Matching.{matches_type, matches_item, allows_count, has_atom_type}
use Rattle.xdm_items.specs.Values.{string_value_of, atomized}
use Rattle.xdm_items.specs.declared.items.Item.{Item}
use Rattle.xdm_items.specs.declared.items.Item.TheVariants.{Node, Atom}
use Rattle.xt_syntax.specs.declared.exprs.Clause.TheViews.{roll-Expr}
use Rattle.xt_syntax.specs.declared.exprs.Clause.TheOpen.{Arith, Value}
use Rattle.function_table.specs.Find.{found, found_in, is_in_fn}
use Rattle.function_table.specs.Table.{joined as joined_tables}
use Rattle.function_table.specs.declared.builtins.Builtin.TheVariants as function
use Rattle.order_group.specs.Groups.{first_seen, atoms_of}
use Rattle.item_functions.specs.NodeFunctions.Deep.{deep_equal}
use Rattle.xdm_items.specs.FunctionArguments.Answers.{of_text, of_integer, of_truth}
use Rattle.xdm_items.specs.FunctionArguments.Arguments.{optional_node_argument, integer_argument, atom_arguments}
use Rattle.xdm_items.specs.FunctionArguments.Arguments.{text_argument, text_arguments}
use Rattle.item_functions.specs.SequenceFunctions.Positions.{from_start, from_start_so_many, removed}
use Rattle.item_functions.specs.SequenceFunctions.Values.{distinct_values}
use Rattle.item_functions.specs.OnSequences.{deep_equal_of, distinct_values_of, remove_of, subsequence_of}
use Rattle.item_functions.specs.OnSequences.{subsequence_for_of}
use Rattle.text_functions.specs.NameFunctions.NodeNames.{node_name_of, argument_name, of_optional_name}
use Rattle.text_functions.specs.NameFunctions.NodeNames.{place_name as name_at}
use Rattle.text_functions.specs.TextFunctions.{string_of, string_join_of}
use Rattle.fn_lib.specs.Functions.{function_value, value_of}
use Rattle.operator_values.specs.Comparisons.{single_value}
use Rattle.operator_values.specs.Numbers.{arithmetic_value, optional_number, number_list}
use Rattle.operator_values.specs.Operands.{optional_atom}
use Rattle.expr_meaning.specs.Outcomes.Outcome.{Fails, and_then, Every}
use Rattle.expr_meaning.specs.Env.{Env, Program, bind_all, look_up}
use Rattle.expr_meaning.specs.Calls.{called, library}
use Rattle.expr_meaning.specs.Queries.{body_env}
use Rattle.expr_meaning.specs.Meaning.{outcome}
use Rattle.carried_exprs.specs.Sights.{item_name, position_name, variable_of, nothing}
use Rattle.query_helpers.specs.Last.{attribute_below, attribute_of, put_attribute, attributes_in}
use Rattle.query_helpers.specs.Last.{kept_behind, last_of, IsPlaced}
use Rattle.query_helpers.specs.Forms.{for_at, if_of}
use Rattle.query_helpers.specs.Forms.{integer_of, text_literal}
use Rattle.query_helpers.specs.LastBody.{items_name, names_name, later_name, near_name}
use Rattle.query_helpers.specs.LastBody.{is_attribute_in, is_node_in, node_name_in, all_names}
use Rattle.query_helpers.specs.LastBody.{those_behind, comes_again, those_near, words_near}
use Rattle.query_helpers.specs.LastBody.{kept_arms, kept_item_body, names_all_differ, last_body}
use Rattle.query_helpers.proofs.Gives.{joined, Gives, Tells, mean, gives_variable}
use Rattle.query_helpers.proofs.Gives.{gives_integer, gives_text, gives_nothing, tells_truth}
use Rattle.query_helpers.proofs.Gives.{tells_text, tells_kind, gives_if, gives_call}
use Rattle.query_helpers.proofs.Gives.{gives_call_of_two, gives_call_of_three, gives_value, tells_both}
use Rattle.query_helpers.proofs.Gives.{gives_let, if_else}
use Rattle.query_helpers.proofs.Gives.{let_of, gives_for, gives_for_at, many_fail, tells_some}
use Rattle.query_helpers.proofs.Gives.{gives_many}
use Rattle.query_helpers.proofs.Positions.{from_place, without_first, without_any}
use Rattle.xt_names.specs.Allowed.{is_empty_text}
use Rattle.query_helpers.proofs.LastPure.{names_of, deep_differ, is_attribute_item, is_node_item}
use Rattle.query_helpers.proofs.LastPure.{attribute_told, same_as, is_again, word_of, words_in}
use Rattle.query_helpers.proofs.LastPure.{again_behind, attribute_at, word_at, kept_at, kept_whole}
use Rattle.xt_names.specs.Names.{same_name}
use Rattle.xt_names.specs.ExprNames.{library_name}

-- functions of the library
pub node_name_called : called (library_name (codes "node-name")) 1 ≡ library function.NodeName
unfolding called found found_in joined_tables is_in_fn
node_name_called = refl

pub remove_called : called (library_name (codes "remove")) 2 ≡ library function.Remove
unfolding called found found_in joined_tables is_in_fn
remove_called = refl

pub from_called : called (library_name (codes "subsequence")) 2 ≡ library function.Subsequence
unfolding called found found_in joined_tables is_in_fn
from_called = refl

pub so_many_called : called (library_name (codes "subsequence")) 3 ≡ library function.Subsequence
unfolding called found found_in joined_tables is_in_fn
so_many_called = refl

pub join_called : called (library_name (codes "string-join")) 2 ≡ library function.StringJoin
unfolding called found found_in joined_tables is_in_fn
join_called = refl

pub string_called : called (library_name (codes "string")) 1 ≡ library function.String
unfolding called found found_in joined_tables is_in_fn
string_called = refl

pub deep_equal_called : called (library_name (codes "deep-equal")) 2 ≡ library function.DeepEqual
unfolding called found found_in joined_tables is_in_fn
deep_equal_called = refl

pub distinct_called : called (library_name (codes "distinct-values")) 1 ≡ library function.DistinctValues
unfolding called found found_in joined_tables is_in_fn
distinct_called = refl

-- their values
abbrev named_of : Option Attribute → List Item
named_of None = []
named_of (Some a) = Atom (atom.QName a.name) ∷ []

tree_of : (o : Option Tree) (a : Attribute) → attribute_below o ≡ Some a → o ≡ Some (Attr a.name a.value)
tree_of None a h = absurd cc
tree_of (Some (Doc kids)) a h = absurd cc
tree_of (Some (Elem name us kids)) a h = absurd cc
tree_of (Some (Text t)) a h = absurd cc
tree_of (Some (Comment t)) a h = absurd cc
tree_of (Some (Pi target t)) a h = absurd cc
tree_of (Some (Attr name t)) a h =
    let e : record { name = name; value = t } ≡ a = cc in
    ap (λ (z : Attribute). Some (Attr z.name z.value)) e

named_node : (n : _) (a : Attribute) → subtree_of n ≡ Some (Attr a.name a.value) → name_at n ≡ Some a.name
unfolding name_at
named_node n a h = rw h refl

node_name_value : (x : Item) (a : Attribute) → attribute_of x ≡ Some a →
    function_value function.NodeName ((x ∷ []) ∷ []) ≡ Ok (named_of (Some a))
unfolding function_value value_of node_name_of argument_name optional_node_argument converted matched
    prepared matches_type matches_item allows_count tree_passes passes_test
node_name_value (Node n) a h =
    let t = tree_of (subtree_of n) a h in
    rw t (ap (λ o. Ok (of_optional_name o)) (named_node n a t))
node_name_value (Atom b) a h = absurd cc

remove_value : (xs : List Item) → function_value function.Remove (xs ∷ of_integer (pos 1) ∷ [])
    ≡ Ok (removed xs (pos 1))
unfolding function_value value_of remove_of integer_argument converted matched prepared matches_type
    matches_item allows_count converted_items converted_item converted_atom has_atom_type atomized
remove_value xs = refl

from_value : (xs : List Item) (n : ℤ) → function_value function.Subsequence (xs ∷ of_integer n ∷ [])
    ≡ Ok (from_start xs n)
unfolding function_value value_of subsequence_of integer_argument converted matched prepared matches_type
    matches_item allows_count converted_items converted_item converted_atom has_atom_type atomized
from_value xs n = refl

pub so_many_value : (xs : List Item) (n m : ℤ) →
    function_value function.Subsequence (xs ∷ of_integer n ∷ of_integer m ∷ [])
    ≡ Ok (from_start_so_many xs n m)
unfolding function_value value_of subsequence_for_of integer_argument converted matched prepared matches_type
    matches_item allows_count converted_items converted_item converted_atom has_atom_type atomized
so_many_value xs n m = refl

pub string_value : (x : Item) → function_value function.String ((x ∷ []) ∷ []) ≡ Ok (of_text (string_value_of x))
unfolding function_value value_of string_of
string_value x = refl

name_value : (a b : Attribute) →
    single_value Eq (named_of (Some a)) (named_of (Some b)) ≡ Ok (of_truth (same_name a.name b.name))
unfolding single_value optional_atom value_comparison name_comparison same_name_of_atoms
name_value a b = refl

pub place_before : (i : ℕ) → 0 < i → i < 2 ^ 63 →
    arithmetic_value Sub (of_integer (pos i)) (of_integer (pos 1)) ≡ Ok (of_integer (pos (i - 1)))
unfolding arithmetic_value optional_number optional_atom integer_operand computed ranged
place_before zero h g = absurd (omega arith)
place_before (suc j) h g =
    let e : pos (suc j) -ℤ pos 1 ≡ pos j = omega (arith, ints) in
    let n : suc j - 1 ≡ j = omega arith in
    ap (λ z. number_list (ranged z)) e
    ∙ ap (λ b. number_list (if b then Ok (pos j) else Err (Dynamic FOAR0002)))
    (lt-ltb j (2 ^ 63) (omega arith))
    ∙ ap (λ m. Ok (of_integer (pos m))) (sym n)

-- names as atoms stay as they are
names_stay : (us : List Attribute) → converted_items kind.Any (atomized (map Atom (names_of us)))
    ≡ Ok (map Atom (names_of us))
unfolding converted_items converted_item converted_atom atomized
names_stay [] = refl
names_stay (u ∷ us) =
    ap (λ r. with_item (Ok (Atom (atom.QName u.name))) r) (names_stay us)

names_match : (us : List Attribute) →
    list_all (matches_item (Atomic kind.Any)) (map Atom (names_of us)) ≡ true
unfolding matches_item has_atom_type
names_match [] = refl
names_match (u ∷ us) = names_match us

atoms_are : (ks : List AtomValue) → atoms_of (map Atom ks) ≡ ks
atoms_are [] = refl
atoms_are (k ∷ ks) = ap (λ l. k ∷ l) (atoms_are ks)

distinct_value : (us : List Attribute) →
    function_value function.DistinctValues (map Atom (names_of us) ∷ [])
    ≡ Ok (map Atom (first_seen (names_of us)))
unfolding function_value value_of distinct_values_of atom_arguments converted prepared matched
    matches_type allows_count distinct_values
distinct_value us =
    rw (names_stay us, names_match us, atoms_are (names_of us)) refl

pub deep_value : (xs ys : List Item) →
    function_value function.DeepEqual (xs ∷ ys ∷ []) ≡ Ok (of_truth (deep_equal xs ys))
unfolding function_value value_of deep_equal_of
deep_value xs ys = refl

-- texts as arguments stay as they are
abbrev all_texts : List Item → List Item
all_texts ys = joined word_of ys

texts_stay : (ys : List Item) → converted_items kind.Str (atomized (all_texts ys)) ≡ Ok (all_texts ys)
unfolding converted_items converted_item converted_atom atomized
texts_stay [] = refl
texts_stay (y ∷ ys) = by (is_node_item y) (texts_stay ys)
  where
    by : (b : Bool) → converted_items kind.Str (atomized (all_texts ys)) ≡ Ok (all_texts ys) →
        converted_items kind.Str (atomized ((if b then [] else of_text (string_value_of y)) ++ all_texts ys))
        ≡ Ok ((if b then [] else of_text (string_value_of y)) ++ all_texts ys)
    by true h = h
    by false h = ap (λ r. with_item (Ok (Atom (atom.Str (string_value_of y)))) r) h

texts_match : (ys : List Item) → list_all (matches_item (Atomic kind.Str)) (all_texts ys) ≡ true
unfolding matches_item has_atom_type
texts_match [] = refl
texts_match (y ∷ ys) = by (is_node_item y) (texts_match ys)
  where
    by : (b : Bool) → list_all (matches_item (Atomic kind.Str)) (all_texts ys) ≡ true →
        list_all (matches_item (Atomic kind.Str))
        ((if b then [] else of_text (string_value_of y)) ++ all_texts ys) ≡ true
    by true h = h
    by false h = h

join_value : (ys : List Item) →
    function_value function.StringJoin (all_texts ys ∷ of_text (codes ",") ∷ []) ≡ Ok (of_text (words_in ys))
unfolding function_value value_of string_join_of text_arguments text_argument converted prepared matched
    matches_type allows_count converted_items converted_item converted_atom atomized matches_item has_atom_type
join_value ys = rw (texts_stay ys, texts_match ys) refl

-- what a test chooses
pub if_yes : {A : Type 0} (P : A → Type 0) (b : Bool) (a c : A) → b ≡ true → P a → P (if b then a else c)
if_yes P true a c h p = p
if_yes P false a c h p = absurd cc

pub if_no : {A : Type 0} (P : A → Type 0) (b : Bool) (a c : A) → b ≡ false → P c → P (if b then a else c)
if_no P true a c h p = absurd cc
if_no P false a c h p = p

some_of : (o : Option Attribute) → is_some o ≡ true → (a : Attribute) × (o ≡ Some a)
some_of None h = absurd cc
some_of (Some a) h = (a, refl)

none_of : (o : Option Attribute) → is_some o ≡ false → o ≡ None
none_of None h = refl
none_of (Some a) h = absurd cc

the_attribute : (x : Item) → is_attribute_item x ≡ true → (a : Attribute) × (attribute_of x ≡ Some a)
the_attribute x h = some_of (attribute_of x) (sym (attribute_told x) ∙ h)

no_attribute : (x : Item) → is_attribute_item x ≡ false → attribute_of x ≡ None
no_attribute x h = none_of (attribute_of x) (sym (attribute_told x) ∙ h)

names_joined : (xs : List Item) →
    joined (λ x. named_of (attribute_of x)) xs ≡ map Atom (names_of (attributes_in xs))
names_joined [] = refl
names_joined (x ∷ xs) =
    ap (λ ys. named_of (attribute_of x) ++ ys) (names_joined xs) ∙ by (attribute_of x)
  where
    by : (o : Option Attribute) → named_of o ++ map Atom (names_of (attributes_in xs))
        ≡ map Atom (names_of (put_attribute o (attributes_in xs)))
    by None = refl
    by (Some a) = refl

drop_one : (j : ℕ) (xs : List Item) → removed (drop j xs) (pos 1) ≡ drop (suc j) xs
drop_one zero [] = without_any
drop_one zero (x ∷ xs) = without_first x xs
drop_one (suc j) [] = without_any
drop_one (suc j) (x ∷ xs) = drop_one j xs

module _ (q : Program) (xs : List Item) where
  abbrev us : List Attribute
  us = attributes_in xs

  abbrev env0 : Env
  env0 = body_env ((items_name, xs) ∷ [])

  abbrev env1 : Env
  env1 = bind_all ((names_name, map Atom (names_of us)) ∷ []) env0

  abbrev env2 : ℕ → Item → Env
  env2 i x = bind_all ((position_name, of_integer (pos i)) ∷ (item_name, x ∷ []) ∷ []) env1

  -- the name of an attribute that a variable holds
  name_gives : (v : ExprName) (env : Env) (x : Item) (a : Attribute) →
      look_up env.locals v ≡ Some (x ∷ []) → attribute_of x ≡ Some a →
      Gives q (node_name_in v) env (named_of (Some a))
  name_gives v env x a h e =
      gives_call q (library_name (codes "node-name")) function.NodeName (variable_of v) env (x ∷ [])
      (named_of (Some a)) node_name_called (gives_variable q v env (x ∷ []) h) (node_name_value x a e)

  names_given : Gives q all_names env0 (map Atom (names_of us))
  unfolding look_up
  names_given =
      subst (Gives q all_names env0) (names_joined xs)
      (gives_for q item_name (variable_of items_name)
      (if_of (is_attribute_in item_name) (node_name_in item_name) nothing) env0 xs
      (λ x. named_of (attribute_of x)) (gives_variable q items_name env0 xs refl)
      (λ x. let env : Env = bind_all ((item_name, x ∷ []) ∷ []) env0 in
      gives_if q (is_attribute_in item_name) (node_name_in item_name) nothing env (is_attribute_item x)
      (named_of (attribute_of x))
      (tells_kind q (variable_of item_name) (AttrTest Any) env x
      (gives_variable q item_name env (x ∷ []) refl))
      (λ e. let a = the_attribute x e in
      subst (λ o. Gives q (node_name_in item_name) env (named_of o)) (sym a.1)
      (name_gives item_name env x a.0 refl a.1))
      (λ e. subst (λ o. Gives q nothing env (named_of o)) (sym (no_attribute x e))
      (gives_nothing q env))))

  -- whether all names differ
  differ_told : Tells q names_all_differ env1 (names_differ us)
  unfolding look_up
  differ_told =
      let ns : List Item = map Atom (names_of us) in
      let ds : List Item = map Atom (first_seen (names_of us)) in
      let names : Gives q (variable_of names_name) env1 ns = gives_variable q names_name env1 ns refl in
      tells_truth q names_all_differ env1 (names_differ us)
      (subst (λ b. Gives q names_all_differ env1 (of_truth b)) (deep_differ us)
      (gives_call_of_two q (library_name (codes "deep-equal")) function.DeepEqual
      (variable_of names_name) _ env1 ns ds (of_truth (deep_equal ns ds)) deep_equal_called names
      (gives_call q (library_name (codes "distinct-values")) function.DistinctValues
      (variable_of names_name) env1 ns ds distinct_called names (distinct_value us))
      (deep_value ns ds)))

  -- whether an attribute of the name comes again
  behind_given : (j : ℕ) (x : Item) → Gives q those_behind (env2 (suc j) x) (drop (suc j) xs)
  unfolding look_up
  behind_given j x =
      let env : Env = env2 (suc j) x in
      subst (Gives q those_behind env) (drop_one j xs)
      (gives_call_of_two q (library_name (codes "remove")) function.Remove _ (integer_of (pos 1)) env
      (drop j xs) (of_integer (pos 1)) (removed (drop j xs) (pos 1)) remove_called
      (gives_call_of_two q (library_name (codes "subsequence")) function.Subsequence
      (variable_of items_name) (variable_of position_name) env xs (of_integer (pos (suc j))) (drop j xs)
      from_called (gives_variable q items_name env xs refl)
      (gives_variable q position_name env (of_integer (pos (suc j))) refl)
      (from_value xs (pos (suc j)) ∙ ap Ok (from_place j xs)))
      (gives_integer q (pos 1) env) (remove_value (drop j xs)))

  again_told : (j : ℕ) (x : Item) (a : Attribute) → attribute_of x ≡ Some a →
      Tells q comes_again (env2 (suc j) x) (list_any (is_again a) (drop (suc j) xs))
  unfolding look_up
  again_told j x a e =
      tells_some q later_name those_behind _ (env2 (suc j) x) (drop (suc j) xs) (is_again a)
      (behind_given j x)
      (λ y. let env : Env = bind_all ((later_name, y ∷ []) ∷ []) (env2 (suc j) x) in
      tells_both q (is_attribute_in later_name) _ env (is_attribute_item y) (same_as a (attribute_of y))
      (tells_kind q (variable_of later_name) (AttrTest Any) env y
      (gives_variable q later_name env (y ∷ []) refl))
      (λ h. let b = the_attribute y h in
      tells_truth q _ env (same_as a (attribute_of y))
      (subst (λ o. Gives q (roll-Expr (Value Eq (node_name_in item_name) (node_name_in later_name))) env
      (of_truth (same_as a o))) (sym b.1)
      (gives_value q Eq (node_name_in item_name) (node_name_in later_name) env (named_of (Some a))
      (named_of (Some b.0)) (of_truth (same_name a.name b.0.name))
      (name_gives item_name env x a refl e) (name_gives later_name env y b.0 refl b.1)
      (name_value a b.0)))))

  -- the texts of the atoms beside it
  abbrev near : ℕ → List Item
  near i = from_start_so_many xs (pos (i - 1)) (pos 3)

  near_given : (i : ℕ) (x : Item) → 0 < i → i < 2 ^ 63 → Gives q those_near (env2 i x) (near i)
  unfolding look_up
  near_given i x low high =
      let env : Env = env2 i x in
      gives_call_of_three q (library_name (codes "subsequence")) function.Subsequence
      (variable_of items_name) (roll-Expr (Arith Sub (variable_of position_name) (integer_of (pos 1))))
      (integer_of (pos 3)) env xs (of_integer (pos (i - 1))) (of_integer (pos 3)) (near i) so_many_called
      (gives_variable q items_name env xs refl)
      (λ k. mean q (Arith Sub (variable_of position_name) (integer_of (pos 1))) env k
      ∙ rw (
        gives_variable q position_name env (of_integer (pos i)) refl k,
        gives_integer q (pos 1) env k,
        place_before i low high,
      ) refl)
      (gives_integer q (pos 3) env) (so_many_value xs (pos (i - 1)) (pos 3))

  words_told : (i : ℕ) (x : Item) → 0 < i → i < 2 ^ 63 →
      Tells q words_near (env2 i x) (not (is_empty_text (words_in (near i))))
  unfolding look_up
  words_told i x low high =
      let env : Env = env2 i x in
      tells_text q words_near env (words_in (near i))
      (gives_call_of_two q (library_name (codes "string-join")) function.StringJoin _
      (text_literal (codes ",")) env (all_texts (near i)) (of_text (codes ","))
      (of_text (words_in (near i))) join_called
      (gives_for q near_name those_near _ env (near i) word_of (near_given i x low high)
      (λ y. let inner : Env = bind_all ((near_name, y ∷ []) ∷ []) env in
      gives_if q (is_node_in near_name) nothing _ inner (is_node_item y) (word_of y)
      (tells_kind q (variable_of near_name) NodeTest inner y
      (gives_variable q near_name inner (y ∷ []) refl))
      (λ e. if_yes (Gives q nothing inner) (is_node_item y) [] (of_text (string_value_of y)) e
      (gives_nothing q inner))
      (λ e. if_no (Gives q _ inner) (is_node_item y) [] (of_text (string_value_of y)) e
      (gives_call q (library_name (codes "string")) function.String (variable_of near_name) inner
      (y ∷ []) (of_text (string_value_of y)) string_called
      (gives_variable q near_name inner (y ∷ []) refl) (string_value y)))))
      (gives_text q (codes ",") env) (join_value (near i)))

  -- what is kept of the item at a place
  item_given : (i : ℕ) (x : Item) → Gives q (variable_of item_name) (env2 i x) (x ∷ [])
  unfolding look_up
  item_given i x = gives_variable q item_name (env2 i x) (x ∷ []) refl

  kept_given : (j : ℕ) (x : Item) → suc j < 2 ^ 63 →
      Gives q kept_item_body (env2 (suc j) x) (kept_at xs (suc j) x)
  kept_given j x high =
      let i : ℕ = suc j in
      let env : Env = env2 i x in
      let other : List Item = if is_node_item x then x ∷ [] else word_at xs i x in
      let word : Bool = not (is_empty_text (words_in (near i))) in
      gives_many q kept_arms nothing env (kept_at xs i x) (
        is_attribute_item x,
        tells_kind q (variable_of item_name) (AttrTest Any) env x (item_given i x),
        (λ e. let a = the_attribute x e in
            if_yes (Gives q (if_of comes_again nothing (variable_of item_name)) env) (is_attribute_item x)
            (attribute_at xs i x) other e
            (subst (λ o. Gives q (if_of comes_again nothing (variable_of item_name)) env
            (if again_behind o (drop i xs) then [] else x ∷ [])) (sym a.1)
            (gives_if q comes_again nothing (variable_of item_name) env (list_any (is_again a.0) (drop i xs))
            _ (again_told j x a.0 a.1)
            (λ h. if_yes (Gives q nothing env) (list_any (is_again a.0) (drop i xs)) [] (x ∷ []) h
            (gives_nothing q env))
            (λ h. if_no (Gives q (variable_of item_name) env) (list_any (is_again a.0) (drop i xs)) []
            (x ∷ []) h (item_given i x))))),
        (λ e. (
          is_node_item x,
          tells_kind q (variable_of item_name) NodeTest env x (item_given i x),
          (λ h. if_no (Gives q (variable_of item_name) env) (is_attribute_item x) (attribute_at xs i x)
              other e
              (if_yes (Gives q (variable_of item_name) env) (is_node_item x) (x ∷ []) (word_at xs i x) h
              (item_given i x))),
          (λ h. (
            word,
            words_told i x (omega arith) high,
            (λ r. if_no (Gives q (variable_of item_name) env) (is_attribute_item x) (attribute_at xs i x)
                other e
                (if_no (Gives q (variable_of item_name) env) (is_node_item x) (x ∷ []) (word_at xs i x) h
                (if_yes (Gives q (variable_of item_name) env) word (x ∷ []) [] r (item_given i x)))),
            (λ r. if_no (Gives q nothing env) (is_attribute_item x) (attribute_at xs i x) other e
                (if_no (Gives q nothing env) (is_node_item x) (x ∷ []) (word_at xs i x) h
                (if_no (Gives q nothing env) word (x ∷ []) [] r (gives_nothing q env)))),
          )),
        )),
      )

  -- the whole body
  whole_given : (ys : List Item) →
      (names_differ us ≡ true → ys ≡ xs) → (names_differ us ≡ false → Gives q
      (for_at item_name position_name (variable_of items_name) kept_item_body) env1 ys) →
      Gives q last_body env0 ys
  unfolding look_up
  whole_given ys same other =
      gives_let q names_name all_names _ env0 (map Atom (names_of us)) ys names_given
      (gives_if q names_all_differ (variable_of items_name) _ env1 (names_differ us) ys differ_told
      (λ e. subst (Gives q (variable_of items_name) env1) (sym (same e))
      (gives_variable q items_name env1 xs refl)) other)

  -- where it counts all it keeps what the content law names
  pub last_few : Every IsPlaced xs → length xs < 2 ^ 63 → Gives q last_body env0 (last_of xs)
  unfolding look_up
  last_few placed few =
      whole_given (last_of xs)
      (λ e. if_yes (λ zs. zs ≡ xs) (names_differ us) xs (kept_behind None xs) e refl)
      (λ e. if_no (Gives q (for_at item_name position_name (variable_of items_name) kept_item_body) env1)
      (names_differ us) xs (kept_behind None xs) e
      (subst (Gives q (for_at item_name position_name (variable_of items_name) kept_item_body) env1)
      (kept_whole xs placed)
      (gives_for_at q item_name position_name (variable_of items_name) kept_item_body env1 xs (kept_at xs)
      few (gives_variable q items_name env1 xs refl) each)))
    where
      each : (i : ℕ) (x : Item) → 0 < i → i ≤ length xs →
          Gives q kept_item_body (env2 i x) (kept_at xs i x)
      each zero x low high = absurd (omega arith)
      each (suc j) x low high = kept_given j x (omega arith)

  -- it counts nothing where all names differ
  pub last_same : names_differ us ≡ true → Gives q last_body env0 (last_of xs)
  last_same h =
      whole_given (last_of xs)
      (λ e. if_yes (λ zs. zs ≡ xs) (names_differ us) xs (kept_behind None xs) e refl)
      (λ e. absurd cc)

  -- .. and fails where they do not and it cannot count
  pub last_many : names_differ us ≡ false → 2 ^ 63 ≤ length xs → (k : ℕ) →
      outcome q last_body env0 k ≡ Fails (Dynamic FOAR0002)
  unfolding look_up
  last_many h many k =
      let told : Tells q names_all_differ env1 false =
      subst (Tells q names_all_differ env1) h differ_told in
      let_of q names_name all_names _ env0 k
      ∙ ap (λ o. and_then o (λ ns. outcome q (if_of names_all_differ (variable_of items_name)
      (for_at item_name position_name (variable_of items_name) kept_item_body))
      (bind_all ((names_name, ns) ∷ []) env0))) (names_given k)
      ∙ if_else q names_all_differ (variable_of items_name) _ env1 told k
      ∙ many_fail q item_name position_name (variable_of items_name) kept_item_body env1 xs many
      (gives_variable q items_name env1 xs refl) k
