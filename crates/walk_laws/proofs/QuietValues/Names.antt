-- The names of nodes, as functions give them and as quiet predicates compare them.
use Rattle.std.proofs.Common.{◌≡◌, ℕ, ◌<◌, ◌≤◌, List, [], ◌∷◌, length, get_or, refl, arith, ◌⊎◌, inl}
use Rattle.std.proofs.Common.{inr, ap, ◌∙◌}
use Rattle.std.specs.Prelude.{true, false, Option, Some, None, Ok, slice_get}
use Rattle.std.proofs.lemmas.Bool.{ltb-true}
use Rattle.std.proofs.lemmas.Option.{slice_get_cases}
use Rattle.xt_names.specs.Allowed.{is_empty_text}
use Rattle.xt_tree.specs.declared.attributes.Attribute.{Attribute}
use Rattle.xt_tree.specs.declared.trees.Tree.{Tree}
use Rattle.xt_tree.specs.declared.trees.Tree.TheVariants as tree
use Rattle.xt_tree.specs.Place.{Place, has_place, has_attribute, subtree_at, subtree_below, subtree_of}
use Rattle.xt_tree.specs.Place.{attribute_tree}
use Rattle.xt_tree.specs.TreeView.{attributes_of}
use Rattle.xt_atoms.specs.AtomTexts.{text_of as text_of_atom, lexical_qname}
use Rattle.node_tests.specs.Tests.{tree_passes, passes_test}
use Rattle.xdm_items.specs.Conversion.{converted, matched, prepared}
use Rattle.xdm_items.specs.Matching.{matches_type, matches_item, allows_count}
use Rattle.xdm_items.specs.declared.items.Item.TheVariants.{Node}
use Rattle.xdm_items.specs.FunctionArguments.Answers.{of_text}
use Rattle.xdm_items.specs.FunctionArguments.Arguments.{optional_node_argument, and_then as result_then}
use Rattle.text_functions.specs.NameFunctions.NodeNames.{place_name, argument_name, name_of, local_name_of}
use Rattle.text_functions.specs.NameFunctions.NodeNames.{lexical, local_text}
use Rattle.quiet_meaning.specs.Values.{name_text, name_below, written_name}

attribute_there : (attributes : List Attribute) (i : ℕ) → i < length attributes →
    (a : Attribute) × (slice_get attributes i ≡ Some a)
attribute_there attributes i h = by (slice_get_cases attributes i).1
  where
    by : ((a : Attribute) × (i < length attributes) × (slice_get attributes i ≡ Some a)
        × (get_or attributes i a ≡ a))
        ⊎ ((length attributes ≤ i) × (slice_get attributes i ≡ None)) →
        (a : Attribute) × (slice_get attributes i ≡ Some a)
    by (inl (a, l, e, g)) = (a, e)
    by (inr (l, e)) = absurd (omega (arith, h, l))

below_there : (o : Option Tree) (attribute : Option ℕ) → has_attribute o attribute ≡ true →
    (t : Tree) × (subtree_below o attribute ≡ Some t)
below_there None attribute h = absurd cc
below_there (Some t) None h = (t, refl)
below_there (Some t) (Some i) h =
    let r = attribute_there (attributes_of t) i (ltb-true _ _ h) in
    (attribute_tree r.0, rw r.1 refl)

-- there is a tree below each node
pub tree_there : (n : Place) → has_place n ≡ true → (t : Tree) × (subtree_of n ≡ Some t)
tree_there n h = below_there (subtree_at n.tree n.path) n.attribute h

-- the argument is the node
pub argument_is : (n : Place) (t : Tree) → subtree_of n ≡ Some t →
    argument_name (Node n ∷ []) ≡ Ok (place_name n)
unfolding argument_name optional_node_argument converted matched prepared matches_type matches_item
    allows_count tree_passes passes_test
argument_is n t e = rw e refl

lexical_is : (n : Place) (t : Tree) → subtree_of n ≡ Some t →
    lexical (place_name n) ≡ name_text true n
unfolding place_name name_text name_below written_name text_of_atom lexical_qname is_empty_text
lexical_is n (tree.Doc kids) e = rw e refl
lexical_is n (tree.Elem name attributes kids) e = rw e refl
lexical_is n (tree.Text t) e = rw e refl
lexical_is n (tree.Comment t) e = rw e refl
lexical_is n (tree.Pi target t) e = rw e refl
lexical_is n (tree.Attr name t) e = rw e refl

local_is : (n : Place) (t : Tree) → subtree_of n ≡ Some t →
    local_text (place_name n) ≡ name_text false n
unfolding place_name name_text name_below written_name
local_is n (tree.Doc kids) e = rw e refl
local_is n (tree.Elem name attributes kids) e = rw e refl
local_is n (tree.Text t) e = rw e refl
local_is n (tree.Comment t) e = rw e refl
local_is n (tree.Pi target t) e = rw e refl
local_is n (tree.Attr name t) e = rw e refl

-- name() and local-name() of a node
pub name_is : (n : Place) → has_place n ≡ true →
    name_of (Node n ∷ []) ≡ Ok (of_text (name_text true n))
unfolding name_of
name_is n h =
    let r = tree_there n h in
    ap (λ o. result_then o (λ x. Ok (of_text (lexical x)))) (argument_is n r.0 r.1)
    ∙ ap (λ x. Ok (of_text x)) (lexical_is n r.0 r.1)

pub local_name_is : (n : Place) → has_place n ≡ true →
    local_name_of (Node n ∷ []) ≡ Ok (of_text (name_text false n))
unfolding local_name_of
local_name_is n h =
    let r = tree_there n h in
    ap (λ o. result_then o (λ x. Ok (of_text (local_text x)))) (argument_is n r.0 r.1)
    ∙ ap (λ x. Ok (of_text x)) (local_is n r.0 r.1)
