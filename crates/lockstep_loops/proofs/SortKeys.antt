-- The keys of an order in the query are those of the stylesheet's sort, by their type.
use Rattle.std.proofs.Common.{◌≡◌, ℕ, ℤ, List, [], ◌∷◌, ◌++◌, refl, ap, ◌∙◌, map}
use Rattle.std.specs.Prelude.{Bool, true, false, Option, None, Some, Result, Ok, Err, codes}
use Rattle.std.specs.Prelude.{option_map, is_ok, is_some}
use Rattle.xt_names.specs.declared.codes.Code.{Code}
use Rattle.xt_names.specs.declared.kinds.AtomType.TheVariants as kind
use Rattle.xt_names.specs.declared.names.ExprName.{ExprName}
use Rattle.xt_atoms.specs.AtomTexts.{text_of}
use Rattle.xt_atoms.specs.Lexical.{integer_of, spelled_integer, spells_integer, trimmed}
use Rattle.xt_atoms.specs.Lexical.{without_trailing_white, without_leading_white}
use Rattle.xt_atoms.specs.Casts.{wrong_type, cast_of, integer_from, spelled_value, with_value}
use Rattle.xdm_items.specs.FunctionArguments.Arguments.{and_then as result_then}
use Rattle.xt_atoms.specs.declared.atoms.Atom.{Atom as AtomValue}
use Rattle.xt_atoms.specs.declared.atoms.Atom.TheVariants as atom
use Rattle.xt_tree.specs.Place.{subtree_of}
use Rattle.xt_tree.specs.declared.trees.Tree.{Tree}
use Rattle.xt_tree.specs.declared.trees.Tree.TheVariants as tree
use Rattle.xdm_items.specs.Truth.{truth_of, truth_of_atom}
use Rattle.xdm_items.specs.Values.{string_value_of, string_value_below, typed_value_below}
use Rattle.xdm_items.specs.declared.items.Item.{Item}
use Rattle.xdm_items.specs.declared.items.Item.TheVariants.{Node, Atom}
use Rattle.xt_syntax.specs.declared.exprs.Expr.{Expr}
use Rattle.xt_syntax.specs.declared.exprs.Clause.TheViews.{roll-Expr}
use Rattle.xt_syntax.specs.declared.exprs.Clause.TheOpen.{Call, Cast, Castable, Filter, Context}
use Rattle.order_group.specs.Rows.{Cell}
use Rattle.function_table.specs.Find.{found, found_in, is_in_fn}
use Rattle.function_table.specs.Table.{joined}
use Rattle.function_table.specs.declared.builtins.Builtin.{Builtin}
use Rattle.function_table.specs.declared.builtins.Builtin.TheVariants as function
use Rattle.xdm_items.specs.FunctionArguments.Answers.{of_text, of_truth}
use Rattle.text_functions.specs.TextFunctions.{string_of as string_value}
use Rattle.fn_lib.specs.Functions.{function_value, value_of}
use Rattle.operator_values.specs.Types.{cast_value, castable_value}
use Rattle.operator_values.specs.Operands.{atom_of, optional_atom}
use Rattle.expr_meaning.specs.Outcomes.Outcome.{Outcome, Ends, Fails, Deep, and_then, step_outcome, for_each}
use Rattle.expr_meaning.specs.Outcomes.Outcome.{Anything}
use Rattle.expr_meaning.specs.Outcomes.Follow.{Relation, IsCarrying}
use Rattle.expr_meaning.proofs.OutcomesLemmas.Steps.{then_assoc, then_same, each_one}
use Rattle.expr_meaning.specs.SortMeaning.Sorted.{key_cell}
use Rattle.expr_meaning.specs.Env.{Env, Meaning, Program, bind_all, look_up, at_focus}
use Rattle.expr_meaning.specs.Calls.{called, library, call_value, lists_of}
use Rattle.expr_meaning.specs.Paths.{kept_in_turn}
use Rattle.expr_meaning.specs.Meaning.{outcome}
use Rattle.carried_exprs.specs.Sights.{variable_of}
use Rattle.query_helpers.proofs.Gives.{Gives, mean, gives_variable, for_of}
use Rattle.transform_meaning.specs.Sorting.{sort_cell}
use Rattle.translated_forms.specs.Names.{atom_name}
use Rattle.translated_forms.specs.Loops.{string_of, is_integer, number_key, text_key, typed_key}
use Rattle.translated_forms.specs.Forms.{filtered}
use Rattle.xt_names.specs.ExprNames.{library_name}

-- the text of the atom of an item is its string value
text_below : (o : Option Tree) → text_of (typed_value_below o) ≡ string_value_below o
unfolding text_of
text_below None = refl
text_below (Some (tree.Doc kids)) = refl
text_below (Some (tree.Elem name attributes kids)) = refl
text_below (Some (tree.Text t)) = refl
text_below (Some (tree.Comment t)) = refl
text_below (Some (tree.Pi target t)) = refl
text_below (Some (tree.Attr name t)) = refl

pub text_of_item : (x : Item) → text_of (atom_of x) ≡ string_value_of x
text_of_item (Node n) = text_below (subtree_of n)
text_of_item (Atom a) = refl

-- the key that a list is, by its type
abbrev pub number_of : List ℕ → Cell
number_of t = option_map atom.Int (integer_of t)

unfoldable pub query_cell : Option Bool → List Item → Result Cell Code
query_cell None xs = key_cell wrong_type xs
query_cell (Some false) [] = Ok None
query_cell (Some false) (x ∷ []) = Ok (Some (atom.Str (string_value_of x)))
query_cell (Some false) (x ∷ y ∷ xs) = Err wrong_type
query_cell (Some true) [] = Ok (number_of [])
query_cell (Some true) (x ∷ []) = Ok (number_of (string_value_of x))
query_cell (Some true) (x ∷ y ∷ xs) = Err wrong_type

-- a call of one argument
one_argument : (o : Outcome (List Item)) (go : List (List Item) → ℕ → Outcome (List Item)) →
    and_then (and_then (and_then o (λ xs j. Ends (xs ∷ []) j))
    (λ ys j. and_then (Ends [] j) (λ zs i. Ends (ys ++ zs) i))) go
    ≡ and_then o (λ xs. go (xs ∷ []))
one_argument (Ends xs k) go = refl
one_argument (Fails code) go = refl
one_argument Deep go = refl

-- the empty text spells no number
no_number : number_of [] ≡ None
unfolding integer_of spelled_integer spells_integer trimmed without_trailing_white without_leading_white
no_number = refl

-- the items that the text of an integer is cast to, and none where it spells no integer
abbrev items_of : Option ℤ → List Item
items_of None = []
items_of (Some n) = Atom (atom.Int n) ∷ []

abbrev kept_if : Bool → Item → List Item
kept_if true x = x ∷ []
kept_if false x = []

abbrev one_atom : AtomValue → Result (List Item) Code
one_atom a = Ok (Atom a ∷ [])

abbrev castable : Result ℤ Code → Result (List Item) Code
castable v = Ok (of_truth (is_ok (result_then (with_value atom.Int v) one_atom)))

castable_of_text : (t : List ℕ) → castable_value kind.Int false (Atom (atom.Str t) ∷ [])
    ≡ Ok (of_truth (is_some (integer_of t)))
unfolding castable_value cast_value cast_of integer_from optional_atom
castable_of_text t = by (integer_of t)
  where
    by : (o : Option ℤ) → castable (spelled_value o) ≡ Ok (of_truth (is_some o))
    by None = refl
    by (Some n) = refl

cast_of_text : (t : List ℕ) → cast_value kind.Int true
    (kept_if (is_some (integer_of t)) (Atom (atom.Str t))) ≡ Ok (items_of (integer_of t))
unfolding cast_value cast_of integer_from optional_atom
cast_of_text t = by (integer_of t) refl
  where
    by : (o : Option ℤ) → integer_of t ≡ o →
        cast_value kind.Int true (kept_if (is_some o) (Atom (atom.Str t))) ≡ Ok (items_of o)
    by None e = refl
    by (Some n) e = rw e refl

cell_of_number : (o : Option ℤ) → key_cell wrong_type (items_of o) ≡ Ok (option_map atom.Int o)
cell_of_number None = refl
cell_of_number (Some n) = refl

alone_kept : (m : Meaning) (f : Env) (x : Item) (b : Bool) (k : ℕ) →
    m (at_focus f (record { value = x; place = 1; size = 1 })) k ≡ Ends (of_truth b) k →
    kept_in_turn (m ∷ []) f (x ∷ []) k ≡ Ends (kept_if b x) k
unfolding truth_of truth_of_atom
alone_kept m f x true k h = rw h refl
alone_kept m f x false k h = rw h refl

module _ (q : Program) where
  pub call_one : (name : ExprName) (b : Builtin) (a : Expr) (f : Env) (k : ℕ) →
      called name 1 ≡ library b → outcome q (roll-Expr (Call name (a ∷ []))) f k
      ≡ and_then (outcome q a f k) (λ xs j. step_outcome (function_value b (xs ∷ [])) j)
  call_one name b a f k is =
      mean q (Call name (a ∷ [])) f k
      ∙ ap (λ d. and_then (lists_of (outcome q a ∷ []) f k) (call_value q d name f)) is
      ∙ one_argument (outcome q a f k) (call_value q (library b) name f)

  string_called : called (library_name (codes "string")) 1 ≡ library function.String
  unfolding called found found_in joined is_in_fn
  string_called = refl

  string_gives : (a : Expr) (f : Env) (k : ℕ) → outcome q (string_of a) f k
      ≡ and_then (outcome q a f k) (λ xs j. step_outcome (string_value xs) j)
  unfolding function_value value_of
  string_gives a f k = call_one (library_name (codes "string")) function.String a f k string_called

  -- texts
  text_at : (f : Env) (x : Item) → Gives q (string_of (variable_of atom_name))
      (bind_all ((atom_name, x ∷ []) ∷ []) f) (of_text (string_value_of x))
  unfolding look_up string_value
  text_at f x k =
      string_gives (variable_of atom_name) (bind_all ((atom_name, x ∷ []) ∷ []) f) k
      ∙ ap (λ o. and_then o (λ xs j. step_outcome (string_value xs) j))
      (gives_variable q atom_name (bind_all ((atom_name, x ∷ []) ∷ []) f) (x ∷ []) refl k)

  text_of_each : Item → Item
  text_of_each x = Atom (atom.Str (string_value_of x))

  text_cell : (xs : List Item) → key_cell wrong_type (map text_of_each xs) ≡ query_cell (Some false) xs
  unfolding query_cell text_of_each
  text_cell [] = refl
  text_cell (x ∷ []) = refl
  text_cell (x ∷ y ∷ xs) = refl

  text_gives : (e : Expr) (f : Env) (k : ℕ) →
      and_then (outcome q (text_key e) f k) (λ xs j. step_outcome (key_cell wrong_type xs) j)
      ≡ and_then (outcome q e f k) (λ xs j. step_outcome (query_cell (Some false) xs) j)
  unfolding text_of_each
  text_gives e f k =
      ap (λ o. and_then o (λ xs j. step_outcome (key_cell wrong_type xs) j))
      (for_of q atom_name e (string_of (variable_of atom_name)) f k)
      ∙ then_assoc (outcome q e f k) _ _
      ∙ then_same (outcome q e f k) _ _ (λ xs j.
      ap (λ o. and_then o (λ xs j. step_outcome (key_cell wrong_type xs) j))
      ((λ i. for_each (λ x l. text_at f x l i) xs j) ∙ each_one text_of_each xs j)
      ∙ ap (λ v. step_outcome v j) (text_cell xs))

  -- numbers
  test_at : (f : Env) (t : List ℕ) (k : ℕ) →
      outcome q is_integer (at_focus f (record { value = Atom (atom.Str t); place = 1; size = 1 })) k
      ≡ Ends (of_truth (is_some (integer_of t))) k
  test_at f t k =
      let g = at_focus f (record { value = Atom (atom.Str t); place = 1; size = 1 }) in
      mean q (Castable (roll-Expr Context) kind.Int false) g k
      ∙ ap (λ o. and_then o (λ xs j. step_outcome (castable_value kind.Int false xs) j))
      (mean q Context g k)
      ∙ ap (λ v. step_outcome v k) (castable_of_text t)

  abbrev number_then : Env → List Item → ℕ → Outcome Cell
  number_then f xs k =
      and_then (and_then (kept_in_turn (outcome q is_integer ∷ []) f xs k)
      (λ ys j. step_outcome (cast_value kind.Int true ys) j))
      (λ ys j. step_outcome (key_cell wrong_type ys) j)

  number_at : (f : Env) (t : List ℕ) (k : ℕ) →
      number_then f (Atom (atom.Str t) ∷ []) k ≡ Ends (number_of t) k
  number_at f t k =
      ap (λ o. and_then (and_then o (λ ys j. step_outcome (cast_value kind.Int true ys) j))
      (λ ys j. step_outcome (key_cell wrong_type ys) j))
      (alone_kept (outcome q is_integer) f (Atom (atom.Str t)) (is_some (integer_of t)) k
      (test_at f t k))
      ∙ ap (λ v. and_then (step_outcome v k) (λ ys j. step_outcome (key_cell wrong_type ys) j))
      (cast_of_text t)
      ∙ ap (λ v. step_outcome v k) (cell_of_number (integer_of t))

  number_cells : (f : Env) (xs : List Item) (k : ℕ) →
      and_then (step_outcome (string_value xs) k) (number_then f)
      ≡ step_outcome (query_cell (Some true) xs) k
  unfolding query_cell string_value
  number_cells f [] k = number_at f [] k
  number_cells f (x ∷ []) k = number_at f (string_value_of x) k
  number_cells f (x ∷ y ∷ xs) k = refl

  number_gives : (e : Expr) (f : Env) (k : ℕ) →
      and_then (outcome q (number_key e) f k) (λ xs j. step_outcome (key_cell wrong_type xs) j)
      ≡ and_then (outcome q e f k) (λ xs j. step_outcome (query_cell (Some true) xs) j)
  number_gives e f k =
      ap (λ o. and_then o (λ xs j. step_outcome (key_cell wrong_type xs) j))
      (mean q (Cast (filtered (string_of e) (is_integer ∷ [])) kind.Int true) f k
      ∙ ap (λ o. and_then o (λ xs j. step_outcome (cast_value kind.Int true xs) j))
      (mean q (Filter (string_of e) (is_integer ∷ [])) f k))
      ∙ ap (λ o. and_then (and_then (and_then o (kept_in_turn (outcome q is_integer ∷ []) f))
      (λ ys j. step_outcome (cast_value kind.Int true ys) j))
      (λ ys j. step_outcome (key_cell wrong_type ys) j)) (string_gives e f k)
      ∙ ap (λ o. and_then o (λ ys j. step_outcome (key_cell wrong_type ys) j))
      (then_assoc (and_then (outcome q e f k) (λ xs j. step_outcome (string_value xs) j)) _ _)
      ∙ then_assoc (and_then (outcome q e f k) (λ xs j. step_outcome (string_value xs) j)) _ _
      ∙ then_assoc (outcome q e f k) _ _
      ∙ then_same (outcome q e f k) _ _ (λ xs j. number_cells f xs j)

  -- a key of the order, by its type
  pub typed_gives : (number : Option Bool) (e : Expr) (f : Env) (k : ℕ) →
      and_then (outcome q (typed_key number e) f k) (λ xs j. step_outcome (key_cell wrong_type xs) j)
      ≡ and_then (outcome q e f k) (λ xs j. step_outcome (query_cell number xs) j)
  unfolding query_cell
  typed_gives None e f k = refl
  typed_gives (Some true) e f k = number_gives e f k
  typed_gives (Some false) e f k = text_gives e f k

-- the key of the stylesheet's sort and that of the query's order, of the same items
module _ (like : Code → Code → Type 0) (lax : (a b : Code) → like a b) (rel : Relation)
    (carries : IsCarrying like rel) where
  pub cells_relate : (number : Option Bool) (xs : List Item) (k : ℕ) → rel Cell Anything
      (step_outcome (sort_cell number xs) k) (step_outcome (query_cell number xs) k)
  unfolding sort_cell query_cell
  cells_relate None [] k = carries.ends _ _ _ _ tt
  cells_relate None (x ∷ []) k = carries.ends _ _ _ _ tt
  cells_relate None (x ∷ y ∷ xs) k = carries.errors _ _ _ _ (lax _ _)
  cells_relate (Some true) [] k = rw no_number (carries.ends _ _ _ _ tt)
  cells_relate (Some true) (x ∷ []) k = rw (text_of_item x) (carries.ends _ _ _ _ tt)
  cells_relate (Some true) (x ∷ y ∷ xs) k = carries.errors _ _ _ _ (lax _ _)
  cells_relate (Some false) [] k = carries.ends _ _ _ _ tt
  cells_relate (Some false) (x ∷ []) k = rw (text_of_item x) (carries.ends _ _ _ _ tt)
  cells_relate (Some false) (x ∷ y ∷ xs) k = carries.errors _ _ _ _ (lax _ _)
