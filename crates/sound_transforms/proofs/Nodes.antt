-- What instructions make of sound content, and what they read of sound nodes, is sound.
use Rattle.std.proofs.Common.{◌≡◌, ℕ, ◌+◌, List}
use Rattle.std.specs.Prelude.{false, Some, Ok}
use Rattle.xt_names.specs.declared.names.Name.{Name}
use Rattle.xt_types.specs.declared.axes.Axis.TheVariants.{Child}
use Rattle.xt_tree.specs.Forest.{Forest}
use Rattle.xt_tree.specs.Place.{Place, subtree_of}
use Rattle.xt_tree.specs.Sound.{are_sound_attributes, are_sound_behind}
use Rattle.xt_tree.specs.Walk.{spots_of}
use Rattle.xt_tree.specs.declared.attributes.Attribute.{Attribute}
use Rattle.xt_tree.specs.declared.trees.Tree.{Tree}
use Rattle.xt_tree.specs.declared.trees.Tree.TheVariants as tree
use Rattle.xdm_items.specs.declared.items.Item.{Item}
use Rattle.xdm_items.specs.declared.items.Item.TheVariants.{Node}
use Rattle.node_builder.specs.Answers.{root_place}
use Rattle.node_builder.specs.Made.{Gives}
use Rattle.node_builder.specs.Trees.{numbered, document_of, element_of}
use Rattle.node_builder.specs.declared.kinds.Duplicates.TheVariants.{KeepLast}
use Rattle.node_builder.proofs.SoundTrees.{document_sound, element_sound}
use Rattle.node_builder.proofs.SubtreeLemmas.{subtree_sound}
use Rattle.operator_values.specs.NodeAxes.Axes.{axis_nodes}
use Rattle.expr_meaning.specs.Outcomes.Outcome.{Every}
use Rattle.expr_meaning.proofs.OutcomesLemmas.Relations.{every_map}
use Rattle.expr_meaning.specs.Making.{made}
use Rattle.meaning_laws.specs.SoundValues.Sound.{IsSound}
use Rattle.meaning_laws.proofs.SoundValues.Arguments.{AllSound, IsSoundPlace}
use Rattle.meaning_laws.proofs.SoundValues.Texts.{IsXml}
use Rattle.meaning_laws.proofs.SoundValues.Trees.{IsName, attribute_parts, element_parts, tree_part}
use Rattle.meaning_laws.proofs.SoundFunctions.Operators.{all_placed, all_spots, axis_kept}
use Rattle.meaning_laws.specs.SoundRuns.Sound.{EndsSound}
use Rattle.meaning_laws.proofs.SoundRuns.Made.{all_taken, ends_by, given_ends, new_root}
use Rattle.transform_meaning.specs.Dispatch.{child_items}
use Rattle.transform_meaning.specs.Keys.{all_nodes}

pub element_ends : (n : Name) (xs : List Item) → IsName n → AllSound xs → (k : ℕ) →
    EndsSound (made (element_of KeepLast n xs) k)
element_ends n xs h g k =
    ends_by k (element_of KeepLast n xs) (λ t e. element_sound k (k + 1) (Ok (root_place k t))
    KeepLast n xs (new_root k (numbered k (element_of KeepLast n xs)) t e) h (all_taken xs g))

pub document_ends : (xs : List Item) → AllSound xs → (k : ℕ) →
    EndsSound (made (document_of KeepLast xs) k)
document_ends xs g k =
    ends_by k (document_of KeepLast xs) (λ t e. document_sound k (k + 1) (Ok (root_place k t))
    KeepLast xs (new_root k (numbered k (document_of KeepLast xs)) t e) (all_taken xs g))

pub copy_ends : (n : Place) → IsSound (Node n) → (t : Tree) → subtree_of n ≡ Some t → (k : ℕ) →
    EndsSound (made (Gives t) k)
copy_ends n h t e k = given_ends t (subtree_sound n t (tree_part n h) e) k

pub element_named : (n : Place) → IsSound (Node n) → (name : Name) (attributes : List Attribute)
    (kids : Forest) → subtree_of n ≡ Some (tree.Elem name attributes kids) → IsName name
element_named n h name attributes kids e =
    (element_parts name (are_sound_attributes attributes) (are_sound_behind false kids)
    (subtree_sound n (tree.Elem name attributes kids) (tree_part n h) e)).0

pub text_in : (n : Place) → IsSound (Node n) → (t : List ℕ) →
    subtree_of n ≡ Some (tree.Text t) → IsXml t
text_in n h t e = subtree_sound n (tree.Text t) (tree_part n h) e

pub value_in : (n : Place) → IsSound (Node n) → (name : Name) (t : List ℕ) →
    subtree_of n ≡ Some (tree.Attr name t) → IsXml t
value_in n h name t e = (attribute_parts name t (subtree_sound n (tree.Attr name t) (tree_part n h) e)).1

-- nodes of the same tree
pub nodes_known : (root : Place) → IsSoundPlace root → Every IsSoundPlace (all_nodes root)
nodes_known root h = all_placed root h (spots_of root.tree) (all_spots root.tree)

pub children_known : (n : Place) → IsSoundPlace n → AllSound (child_items n)
children_known n h = every_map IsSound Node (axis_nodes Child n) (axis_kept Child n h)
