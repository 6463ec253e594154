-- Keys (XSLT 2.0, 16.3).
use Rattle.std.specs.Option.{option_map_or}
use Rattle.std.specs.Prelude.{ℕ, List, [], ◌∷◌, ◌++◌, map, filter, slice_get}
use Rattle.std.specs.Prelude.{Result, Ok, Err, if◌then◌else◌}
use Rattle.std.specs.Str.{bytes_eq}
use Rattle.xt_names.specs.Allowed.{is_empty_text}
use Rattle.xt_names.specs.declared.codes.Code.{Code}
use Rattle.xt_names.specs.declared.codes.Code.TheVariants.{QueryStatic}
use Rattle.xt_names.specs.declared.codes.QueryStaticCode.TheVariants.{XPST0017}
use Rattle.xt_names.specs.declared.names.ExprName.{ExprName}
use Rattle.xt_tree.specs.Place.{Place}
use Rattle.xt_tree.specs.Walk.{spots_of}
use Rattle.xt_tree.specs.declared.trees.Tree.{Tree}
use Rattle.xdm_items.specs.declared.items.Item.{Item}
use Rattle.xdm_items.specs.declared.items.Item.TheVariants.{Node, Atom}
use Rattle.xt_syntax.specs.declared.exprs.Expr.{Expr}
use Rattle.xt_sheets.specs.declared.sheets.KeyRule.{KeyRule}
use Rattle.doc_set.specs.Sets.{DocumentSet}
use Rattle.key_index.specs.Keys.{key_nodes}
use Rattle.key_index.specs.declared.indexes.KeyPair.{KeyPair}
use Rattle.node_builder.specs.Answers.{root_place as new_root}
use Rattle.match_patterns.specs.Patterns.{pattern_matches}
use Rattle.operator_values.specs.NodeAxes.Axes.{place_at}
use Rattle.operator_values.specs.Operands.{atom_of}
use Rattle.xdm_items.specs.FunctionArguments.Arguments.{and_then as result_then}
use Rattle.expr_meaning.specs.Outcomes.Outcome.{Outcome, Ends, Fails, Deep, step_outcome}
use Rattle.expr_meaning.specs.Env.{Calls, Keys, Program}
use Rattle.expr_meaning.specs.Meaning.{outcome}
use Rattle.transform_meaning.specs.Places.{outset}

-- no function, key or variable is declared for `use`
abbrev pub no_calls : Calls
no_calls name args k = Fails (QueryStatic XPST0017)

abbrev pub no_keys : Keys
no_keys name values root k = Ends [] k

abbrev pub use_program : DocumentSet → Program
use_program documents = record {
  calls = no_calls;
  keys = no_keys;
  documents = documents;
  globals = [];
  namespaces = [];
  element_default = [];
}

-- the value of what makes no tree; where no function is called no call is lacked
abbrev pub value_without_trees : {A : Type 0} → Outcome A → Result A Code
value_without_trees (Ends v k) = Ok v
value_without_trees (Fails code) = Err code
value_without_trees Deep = Err (QueryStatic XPST0017)

-- `use` has no constructor, so its value is the same whatever number the next tree has
abbrev pub use_value : DocumentSet → Expr → Place → Result (List Item) Code
use_value documents use_of n =
    value_without_trees (outcome (use_program documents) use_of (outset (Node n)) 0)

abbrev pub pairs_for : Place → List Item → List KeyPair
pairs_for n xs = map (λ x. record { node = n; value = atom_of x }) xs

-- the lists that f gives, one after another; the first error stands
abbrev pub each_value : {A B : Type 0} → (A → Result (List B) Code) → List A → Result (List B) Code
each_value f [] = Ok []
each_value f (x ∷ xs) = result_then (f x) (λ ys. result_then (each_value f xs) (λ zs. Ok (ys ++ zs)))

-- the values that a declaration gives a node
abbrev pub pairs_by : DocumentSet → Place → KeyRule → Result (List KeyPair) Code
pairs_by documents n d =
    if pattern_matches d.pattern n
    then result_then (use_value documents d.key n) (λ xs. Ok (pairs_for n xs))
    else Ok []

-- a name as key() writes it: its local part, with its uri in braces before it where it has one
unfoldable pub key_text : ExprName → List ℕ
key_text name =
    if is_empty_text name.uri then name.local else 123 ∷ (name.uri ++ 125 ∷ name.local)

abbrev pub declarations : List KeyRule → List ℕ → List KeyRule
declarations keys name = filter (λ d. bytes_eq (key_text d.name) name) keys

-- all nodes of the tree of a root, attributes among them, in document order
abbrev pub all_nodes : Place → List Place
all_nodes root = map (place_at root) (spots_of root.tree)

-- The nodes of a tree with the values that declarations give them, node by node, and for one node
-- declaration by declaration. They do not depend on what is looked up, nor on what is running.
unfoldable pub key_pairs : DocumentSet → List KeyRule → Place → Result (List KeyPair) Code
key_pairs documents ds root =
    each_value (λ n. each_value (pairs_by documents n) ds) (all_nodes root)

-- what key() finds in a tree: of its nodes those that have one of the values
abbrev pub found_in : DocumentSet → List KeyRule → Keys
found_in documents keys name values root k =
    step_outcome (result_then (key_pairs documents (declarations keys name) root)
    (λ pairs. Ok (key_nodes pairs (map Atom values)))) k

-- the trees that are given, each at its number: the document, then the further ones
abbrev pub given_trees : Tree → DocumentSet → List Tree
given_trees document documents = document ∷ map (λ d. d.1) documents

-- the root of the tree with the number of this one: a given tree is known by its number
abbrev pub known_root : List Tree → Place → Place
known_root trees root =
    option_map_or (new_root root.number) (slice_get trees root.number) root

-- key() in a run on these trees
abbrev pub keys_of : Tree → DocumentSet → List KeyRule → Keys
keys_of document documents keys name values root k =
    found_in documents keys name values (known_root (given_trees document documents) root) k
