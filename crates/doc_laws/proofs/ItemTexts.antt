-- Sound items have a text exactly where none of them is an attribute.
use Rattle.std.proofs.Common.{◌≡◌, ℕ, List, [], ◌∷◌, map, Bool, true, false, not, ◌||◌, cond, Option, Some, None, is_some, refl, ap, ◌∙◌}
use Rattle.std.specs.Prelude.{option_and_then}
use Rattle.std.proofs.lemmas.Bool.{and_parts}
use Rattle.std.proofs.lemmas.List.Folds.{list_any-append}
use Rattle.std.specs.List.{list_all, list_any}
use Rattle.xt_names.specs.Allowed.{is_empty_text}
use Rattle.xt_names.specs.Classes.{is_xml_text}
use Rattle.xt_names.specs.declared.codes.Code.{Code}
use Rattle.xt_atoms.specs.AtomTexts.{text_of}
use Rattle.xt_tree.specs.Forest.{Forest, end, doc, elem, text, comment, pi, attr}
use Rattle.xt_tree.specs.Place.{subtree_of}
use Rattle.xt_tree.specs.Sound.{is_sound_comment, is_sound_pi, are_sound_behind, is_sound_root, is_sound_tree}
use Rattle.xt_tree.specs.TreeView.{trees, forest_of}
use Rattle.xt_tree.specs.declared.trees.Tree.{Tree}
use Rattle.xt_tree.specs.declared.trees.Tree.TheVariants.{Doc, Elem, Text, Comment, Pi, Attr}
use Rattle.xdm_items.specs.declared.items.Item.{Item}
use Rattle.xdm_items.specs.declared.items.Item.TheVariants.{Node, Atom}
use Rattle.node_builder.specs.Complex.{Piece, words, whole, put_atom, put_node, pieces_of, piece_tree, opened, without_empty, merge_text, merged, content_nodes, is_attribute, misplaced, taken, complex_content}
use Rattle.node_builder.specs.Made.{Gives, Fails}
use Rattle.node_builder.specs.SoundItems.{is_sound_item, are_sound_items}
use Rattle.node_builder.specs.declared.contents.Content.{Content}
use Rattle.node_builder.specs.declared.kinds.Duplicates.TheVariants.{Refuse}
use Rattle.node_builder.specs.declared.kinds.Holder.TheVariants.{Document}
use Rattle.node_builder.proofs.SubtreeLemmas.{subtree_sound}
use Rattle.doc_writer.specs.Written.{written_tree, written_bare}
use Rattle.doc_writer.specs.WrittenItems.{document_with, joined_document, written_items, written_items_bare}
use Rattle.doc_laws.specs.ItemTexts.{is_attribute_below, is_attribute_item}

-- no child of a sound document is an attribute
no_loose : (after : Bool) (f : Forest) → are_sound_behind after f ≡ true → list_any is_attribute (trees f) ≡ false
no_loose after end s = refl
no_loose after (doc kids f) s = absurd (cc)
no_loose after (elem name attributes kids f) s = no_loose false f (and_parts _ (are_sound_behind false f) s).1
no_loose after (text t f) s = no_loose true f (and_parts _ (are_sound_behind true f) s).1
no_loose after (comment t f) s = no_loose false f (and_parts (is_sound_comment t) (are_sound_behind false f) s).1
no_loose after (pi target t f) s = no_loose false f (and_parts (is_sound_pi target t) (are_sound_behind false f) s).1
no_loose after (attr name t f) s = absurd (cc)

-- the steps that make content of items leave the attributes
opened_atom : (t : List ℕ) (pieces : List Piece) → list_any is_attribute (opened (map piece_tree (put_atom t pieces))) ≡ list_any is_attribute (opened (map piece_tree pieces))
opened_atom t [] = refl
opened_atom t (words u ∷ pieces) = refl
opened_atom t (whole x ∷ pieces) = refl

opened_node : (o : Option Tree) (pieces : List Piece) → ((x : Tree) → o ≡ Some x → is_sound_root x ≡ true)
    → list_any is_attribute (opened (map piece_tree (put_node o pieces))) ≡ (is_attribute_below o || list_any is_attribute (opened (map piece_tree pieces)))
opened_node None pieces s = refl
opened_node (Some (Doc kids)) pieces s =
    let rest = opened (map piece_tree pieces) in
    list_any-append is_attribute (trees kids) rest ∙ ap (λ b. b || list_any is_attribute rest) (no_loose false kids (s (Doc kids) refl))
opened_node (Some (Elem name attributes kids)) pieces s = refl
opened_node (Some (Text t)) pieces s = refl
opened_node (Some (Comment t)) pieces s = refl
opened_node (Some (Pi target t)) pieces s = refl
opened_node (Some (Attr name t)) pieces s = refl

opened_items : (items : List Item) → list_all is_sound_item items ≡ true → list_any is_attribute (opened (map piece_tree (pieces_of items))) ≡ list_any is_attribute_item items
opened_items [] s = refl
opened_items (Node n ∷ items) s =
    let p = and_parts (is_sound_tree n.tree) (list_all is_sound_item items) s in
    opened_node (subtree_of n) (pieces_of items) (λ x e. subtree_sound n x p.0 e) ∙ ap (λ b. is_attribute_below (subtree_of n) || b) (opened_items items p.1)
opened_items (Atom a ∷ items) s = opened_atom (text_of a) (pieces_of items) ∙ opened_items items (and_parts (is_xml_text (text_of a)) (list_all is_sound_item items) s).1

without_any : (xs : List Tree) → list_any is_attribute (without_empty xs) ≡ list_any is_attribute xs
without_any [] = refl
without_any (Doc kids ∷ xs) = without_any xs
without_any (Elem name attributes kids ∷ xs) = without_any xs
without_any (Text t ∷ xs) = go (is_empty_text t) (without_any xs)
  where
    go : (q : Bool) → list_any is_attribute (without_empty xs) ≡ list_any is_attribute xs → list_any is_attribute (cond q (without_empty xs) (Text t ∷ without_empty xs)) ≡ list_any is_attribute xs
    go true h = h
    go false h = h
without_any (Comment t ∷ xs) = without_any xs
without_any (Pi target t ∷ xs) = without_any xs
without_any (Attr name t ∷ xs) = refl

merge_any : (t : List ℕ) (xs : List Tree) → list_any is_attribute (merge_text t xs) ≡ list_any is_attribute xs
merge_any t [] = refl
merge_any t (Doc kids ∷ xs) = refl
merge_any t (Elem name attributes kids ∷ xs) = refl
merge_any t (Text u ∷ xs) = refl
merge_any t (Comment u ∷ xs) = refl
merge_any t (Pi target u ∷ xs) = refl
merge_any t (Attr name u ∷ xs) = refl

merged_any : (xs : List Tree) → list_any is_attribute (merged xs) ≡ list_any is_attribute xs
merged_any [] = refl
merged_any (Doc kids ∷ xs) = merged_any xs
merged_any (Elem name attributes kids ∷ xs) = merged_any xs
merged_any (Text t ∷ xs) = merge_any t (merged xs) ∙ merged_any xs
merged_any (Comment t ∷ xs) = merged_any xs
merged_any (Pi target t ∷ xs) = merged_any xs
merged_any (Attr name t ∷ xs) = refl

content_any : (items : List Item) → are_sound_items items ≡ true → list_any is_attribute (content_nodes items) ≡ list_any is_attribute_item items
unfolding are_sound_items
content_any items s =
    let xs = opened (map piece_tree (pieces_of items)) in merged_any (without_empty xs) ∙ without_any xs ∙ opened_items items s

-- where a document has a text, content that fails has none and other content has one
decided : (written : Tree → Option (List ℕ)) → ((kids : Forest) → is_some (written (Doc kids)) ≡ true) → (q : Bool) (code : Code) (content : Content)
    → is_some (option_and_then written (document_with (cond q (Fails code) (Gives content)))) ≡ not q
decided written d true code content = refl
decided written d false code content = d (forest_of content.kids)

items_decided : (written : Tree → Option (List ℕ)) → ((kids : Forest) → is_some (written (Doc kids)) ≡ true) → (items : List Item) → are_sound_items items ≡ true
    → is_some (option_and_then written (joined_document items)) ≡ not (list_any is_attribute_item items)
unfolding complex_content taken
items_decided written d items s =
    let nodes = content_nodes items in
    decided written d (list_any is_attribute nodes) (misplaced Refuse Document) (record { attributes = []; kids = nodes }) ∙ ap not (content_any items s)

pub items_declared : (items : List Item) → are_sound_items items ≡ true → is_some (written_items items) ≡ not (list_any is_attribute_item items)
items_declared = items_decided written_tree (λ kids. refl)

pub items_bare : (items : List Item) → are_sound_items items ≡ true → is_some (written_items_bare items) ≡ not (list_any is_attribute_item items)
items_bare = items_decided written_bare (λ kids. refl)
