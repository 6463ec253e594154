-- The content that the nodes below a node of a sound tree give: the same attributes and children.
use Rattle.std.proofs.Common.{◌≡◌, ℕ, List, [], ◌∷◌, ◌++◌, map, refl, sym, ap, ◌∙◌}
use Rattle.std.proofs.lemmas.Bool.{and_parts}
use Rattle.std.proofs.lemmas.List.{append-nil}
use Rattle.std.specs.Prelude.{Bool, true, false, not, ◌&&◌, Option, Some, if◌then◌else◌}
use Rattle.std.specs.List.{list_any}
use Rattle.xt_names.specs.Allowed.{is_empty_text}
use Rattle.xt_names.specs.Classes.{is_xml_text}
use Rattle.xt_names.specs.declared.names.Name.{Name}
use Rattle.xt_tree.specs.declared.attributes.Attribute.{Attribute}
use Rattle.xt_tree.specs.declared.trees.Tree.{Tree}
use Rattle.xt_tree.specs.declared.trees.Tree.TheVariants.{Doc, Elem, Text, Comment, Pi, Attr}
use Rattle.xt_tree.specs.Forest.{Forest, end, doc, elem, text, comment, pi, attr}
use Rattle.xt_tree.specs.Place.{Place, subtree_of, attribute_tree}
use Rattle.xt_tree.specs.Sound.{is_sound_name, are_sound_attributes, are_sound_behind, names_differ}
use Rattle.xt_tree.specs.Sound.{is_sound_comment, is_sound_pi}
use Rattle.xt_tree.specs.TreeView.{trees, forest_of}
use Rattle.xdm_items.specs.declared.items.Item.TheVariants.{Node}
use Rattle.node_builder.specs.Complex.{whole, pieces_of, piece_tree, opened, without_empty, merged}
use Rattle.node_builder.specs.Complex.{merge_text, is_attribute, leading_attributes, behind_attributes}
use Rattle.node_builder.specs.Complex.{content_nodes, taken, complex_content}
use Rattle.node_builder.specs.Made.{Gives}
use Rattle.node_builder.specs.Trees.{element_of, document_of}
use Rattle.node_builder.specs.declared.kinds.Duplicates.TheVariants.{Refuse}
use Rattle.xt_names.proofs.BoolLemmas.{is_false}

-- children of a sound node stay as they are
pub record Stay (ts : List Tree) : Type 0 where
  pub opened_same : opened ts ≡ ts
  pub full : without_empty ts ≡ ts
  pub merged_same : merged ts ≡ ts
  pub plain : list_any is_attribute ts ≡ false

one_more : (t : Tree) (ts : List Tree) → Stay ts → opened (t ∷ ts) ≡ t ∷ opened ts →
    without_empty (t ∷ ts) ≡ t ∷ without_empty ts → merged (t ∷ ts) ≡ t ∷ merged ts →
    is_attribute t ≡ false → Stay (t ∷ ts)
one_more t ts s o f m a = record {
  opened_same = o ∙ ap (λ (z : List Tree). t ∷ z) s.opened_same;
  full = f ∙ ap (λ (z : List Tree). t ∷ z) s.full;
  merged_same = m ∙ ap (λ (z : List Tree). t ∷ z) s.merged_same;
  plain = rw (a) s.plain;
}

-- a text before children that are no text
text_alone : (t : List ℕ) (f : Forest) → are_sound_behind true f ≡ true →
    merge_text t (trees f) ≡ Text t ∷ trees f
text_alone t end h = refl
text_alone t (doc kids rest) h = absurd cc
text_alone t (elem name attributes kids rest) h = refl
text_alone t (text u rest) h = absurd cc
text_alone t (comment u rest) h = refl
text_alone t (pi target u rest) h = refl
text_alone t (attr name u rest) h = absurd cc

pub kids_stay : (f : Forest) (after : Bool) → are_sound_behind after f ≡ true → Stay (trees f)
kids_stay end after h = record { opened_same = refl; full = refl; merged_same = refl; plain = refl }
kids_stay (doc kids rest) after h = absurd cc
kids_stay (elem name attributes kids rest) after h =
    let p = and_parts (is_sound_name name && are_sound_attributes attributes && are_sound_behind false kids)
    (are_sound_behind false rest) h in
    one_more (Elem name attributes kids) (trees rest) (kids_stay rest false p.1) refl refl refl refl
kids_stay (text t rest) after h =
    let p = and_parts (not after && not (is_empty_text t) && is_xml_text t) (are_sound_behind true rest) h in
    let q = and_parts (not after && not (is_empty_text t)) (is_xml_text t) p.0 in
    let r = and_parts (not after) (not (is_empty_text t)) q.0 in
    let s = kids_stay rest true p.1 in
    one_more (Text t) (trees rest) s refl
    (ap (λ b. if b then without_empty (trees rest) else Text t ∷ without_empty (trees rest)) (is_false (is_empty_text t) r.1))
    (ap (merge_text t) s.merged_same ∙ text_alone t rest p.1
    ∙ ap (λ (z : List Tree). Text t ∷ z) (sym s.merged_same))
    refl
kids_stay (comment t rest) after h =
    let p = and_parts (is_sound_comment t) (are_sound_behind false rest) h in
    one_more (Comment t) (trees rest) (kids_stay rest false p.1) refl refl refl refl
kids_stay (pi target t rest) after h =
    let p = and_parts (is_sound_pi target t) (are_sound_behind false rest) h in
    one_more (Pi target t) (trees rest) (kids_stay rest false p.1) refl refl refl refl
kids_stay (attr name t rest) after h = absurd cc

-- no attribute at the front
no_front : (ts : List Tree) → list_any is_attribute ts ≡ false →
    (leading_attributes ts ≡ []) × (behind_attributes ts ≡ ts)
no_front [] h = (refl, refl)
no_front (Doc kids ∷ ts) h = (refl, refl)
no_front (Elem name attributes kids ∷ ts) h = (refl, refl)
no_front (Text t ∷ ts) h = (refl, refl)
no_front (Comment t ∷ ts) h = (refl, refl)
no_front (Pi target t ∷ ts) h = (refl, refl)
no_front (Attr name t ∷ ts) h = absurd cc

-- attributes before children

abbrev Behind : List Attribute → List Tree → List Tree
Behind us ts = map attribute_tree us ++ ts

opened_behind : (us : List Attribute) (ts : List Tree) → opened (Behind us ts) ≡ Behind us (opened ts)
opened_behind [] ts = refl
opened_behind (a ∷ us) ts = ap (λ (z : List Tree). attribute_tree a ∷ z) (opened_behind us ts)

full_behind : (us : List Attribute) (ts : List Tree) →
    without_empty (Behind us ts) ≡ Behind us (without_empty ts)
full_behind [] ts = refl
full_behind (a ∷ us) ts = ap (λ (z : List Tree). attribute_tree a ∷ z) (full_behind us ts)

merged_behind : (us : List Attribute) (ts : List Tree) → merged (Behind us ts) ≡ Behind us (merged ts)
merged_behind [] ts = refl
merged_behind (a ∷ us) ts = ap (λ (z : List Tree). attribute_tree a ∷ z) (merged_behind us ts)

front_of : (us : List Attribute) (ts : List Tree) → leading_attributes ts ≡ [] →
    leading_attributes (Behind us ts) ≡ us
front_of [] ts h = h
front_of (a ∷ us) ts h = ap (λ (z : List Attribute). a ∷ z) (front_of us ts h)

behind_of : (us : List Attribute) (ts : List Tree) → behind_attributes (Behind us ts) ≡ behind_attributes ts
behind_of [] ts = refl
behind_of (a ∷ us) ts = behind_of us ts

-- nodes with these trees
pieces_are : (ns : List Place) (ts : List Tree) → map subtree_of ns ≡ map Some ts →
    pieces_of (map Node ns) ≡ map whole ts
pieces_are [] [] h = refl
pieces_are [] (t ∷ ts) h = absurd cc
pieces_are (n ∷ ns) [] h = absurd cc
pieces_are (n ∷ ns) (t ∷ ts) h =
    let e : subtree_of n ≡ Some t = cc in let f : map subtree_of ns ≡ map Some ts = cc in
    rw (e) (ap (λ z. whole t ∷ z) (pieces_are ns ts f))

trees_again : (ts : List Tree) → map piece_tree (map whole ts) ≡ ts
trees_again [] = refl
trees_again (t ∷ ts) = ap (λ (z : List Tree). t ∷ z) (trees_again ts)

nodes_are : (ns : List Place) (ts : List Tree) → map subtree_of ns ≡ map Some ts →
    content_nodes (map Node ns) ≡ merged (without_empty (opened ts))
nodes_are ns ts h =
    ap (λ z. merged (without_empty (opened (map piece_tree z)))) (pieces_are ns ts h)
    ∙ ap (λ z. merged (without_empty (opened z))) (trees_again ts)

same_behind : (us : List Attribute) (ts : List Tree) → Stay ts →
    merged (without_empty (opened (Behind us ts))) ≡ Behind us ts
same_behind us ts s =
    ap (λ z. merged (without_empty z)) (opened_behind us ts ∙ ap (Behind us) s.opened_same)
    ∙ ap merged (full_behind us ts ∙ ap (Behind us) s.full)
    ∙ merged_behind us ts ∙ ap (Behind us) s.merged_same

forest_again : (f : Forest) → forest_of (trees f) ≡ f
forest_again end = refl
forest_again (doc kids rest) = ap (doc kids) (forest_again rest)
forest_again (elem name attributes kids rest) = ap (elem name attributes kids) (forest_again rest)
forest_again (text t rest) = ap (text t) (forest_again rest)
forest_again (comment t rest) = ap (comment t) (forest_again rest)
forest_again (pi target t rest) = ap (pi target t) (forest_again rest)
forest_again (attr name t rest) = ap (attr name t) (forest_again rest)

pub element_again : (name : Name) (us : List Attribute) (kids : Forest) (ns : List Place) →
    names_differ us ≡ true → are_sound_behind false kids ≡ true →
    map subtree_of ns ≡ map Some (map attribute_tree us ++ trees kids) →
    element_of Refuse name (map Node ns) ≡ Gives (Elem name us kids)
unfolding element_of complex_content taken
element_again name us kids ns d h e =
    let s = kids_stay kids false h in
    let f = no_front (trees kids) s.plain in
    let c = nodes_are ns (Behind us (trees kids)) e ∙ same_behind us (trees kids) s in
    rw (
      c,
      front_of us (trees kids) f.0,
      behind_of us (trees kids) ∙ f.1,
      s.plain,
      d,
      forest_again kids,
    ) refl

pub document_again : (kids : Forest) (n : Place) → are_sound_behind false kids ≡ true →
    subtree_of n ≡ Some (Doc kids) → document_of Refuse (Node n ∷ []) ≡ Gives (Doc kids)
unfolding document_of complex_content taken
document_again kids n h e =
    let s = kids_stay kids false h in
    let c : content_nodes (Node n ∷ []) ≡ trees kids =
    nodes_are (n ∷ []) (Doc kids ∷ []) (ap (λ (z : Option Tree). z ∷ []) e)
    ∙ ap (λ z. merged (without_empty z)) (append-nil (trees kids))
    ∙ ap merged s.full ∙ s.merged_same in
    rw (c, s.plain, forest_again kids) refl
