-- The nodes of sound trees are sound.
use Rattle.std.proofs.Common.{◌≡◌, ℕ, zero, suc, ◌+◌, List, [], ◌∷◌, ◌++◌, drop, Bool, true, false}
use Rattle.std.proofs.Common.{cond, not, ◌&&◌, refl, ◌∙◌}
use Rattle.std.proofs.lemmas.Bool.{and_parts, and_from}
use Rattle.std.proofs.lemmas.List.Folds.{list_all-append}
use Rattle.std.specs.List.{list_all}
use Rattle.xt_names.specs.Allowed.{is_empty_text}
use Rattle.xt_names.specs.Classes.{is_xml_text}
use Rattle.xt_names.specs.declared.names.Binding.{Binding}
use Rattle.xt_names.specs.declared.names.Name.{Name}
use Rattle.xt_tree.specs.Forest.{Forest, end, doc, elem, text, comment, pi, attr}
use Rattle.xt_tree.specs.Sound.{is_sound_name, are_sound_behind, is_sound_comment, is_sound_pi}
use Rattle.xt_tree.specs.Sound.{are_sound_attributes as are_sound_in_tree, names_differ}
use Rattle.xt_tree.specs.declared.attributes.Attribute.{Attribute}
use Rattle.closed_sheets.specs.Values.{is_good_binding}
use Rattle.sheet_table.specs.SheetNodes.Cleaned.{cleaned, flushed, goes, own, is_text, elements_in}
use Rattle.sheet_table.specs.SheetNodes.Cleaned.{element_node}
use Rattle.sheet_table.specs.declared.sheet_nodes.nodes.Node.{Node}
use Rattle.sheet_table.specs.declared.sheet_nodes.nodes.Node.TheVariants as node
use Rattle.closed_parts.specs.SoundNodes.Sound.{are_sound_attributes, is_sound_node, are_sound_nodes}
use Rattle.closed_parts.specs.SoundNodes.Sound.{are_good_declarations}
use Rattle.closed_parts.proofs.SoundNodes.Forms.{element_sound, chars_sound}
use Rattle.xt_names.proofs.ClassLemmas.{append_text, no_text}

own_good : (declared : List (List Binding)) → are_good_declarations declared ≡ true
    → list_all is_good_binding (own declared) ≡ true
own_good [] h = refl
own_good (d ∷ ds) h = (and_parts (list_all is_good_binding d) (are_good_declarations ds) h).0

drop_good : (n : ℕ) (declared : List (List Binding)) → are_good_declarations declared ≡ true
    → are_good_declarations (drop n declared) ≡ true
drop_good zero ds h = h
drop_good (suc n) [] h = refl
drop_good (suc n) (d ∷ ds) h =
    drop_good n ds (and_parts (list_all is_good_binding d) (are_good_declarations ds) h).1

texts_of : (attributes : List Attribute) → are_sound_in_tree attributes ≡ true
    → are_sound_attributes attributes ≡ true
unfolding are_sound_in_tree
texts_of attributes h =
    (and_parts (are_sound_attributes attributes) (names_differ attributes) h).0

flushed_sound : (keep : Bool) (t : List ℕ) → is_xml_text t ≡ true
    → are_sound_nodes (flushed keep t) ≡ true
unfolding flushed
flushed_sound keep t h = go (goes keep t)
  where
    go : (b : Bool) → are_sound_nodes (cond b [] (node.Chars t ∷ [])) ≡ true
    go true = refl
    go false = and_from (is_sound_node (node.Chars t)) _ (chars_sound t h) refl

both : (xs ys : List Node) → are_sound_nodes xs ≡ true → are_sound_nodes ys ≡ true
    → are_sound_nodes (xs ++ ys) ≡ true
both xs ys h i =
    list_all-append is_sound_node xs ys ∙ and_from (are_sound_nodes xs) _ h i

pub nodes_sound : (keep : Bool) (declared : List (List Binding)) (before : List ℕ) (f : Forest)
    → are_good_declarations declared ≡ true → is_xml_text before ≡ true → (after : Bool)
    → are_sound_behind after f ≡ true → are_sound_nodes (cleaned keep declared before f) ≡ true
nodes_sound keep declared before end d t after h = flushed_sound keep before t
nodes_sound keep declared before (elem name attributes kids rest) d t after h =
    let k = and_parts (is_sound_name name && are_sound_in_tree attributes
    && are_sound_behind false kids) (are_sound_behind false rest) h in
    let e = and_parts (is_sound_name name && are_sound_in_tree attributes)
    (are_sound_behind false kids) k.0 in
    let a = and_parts (is_sound_name name) (are_sound_in_tree attributes) e.0 in
    let content = cleaned (is_text name) (drop 1 declared) [] kids in
    let inner : are_sound_nodes content ≡ true =
    nodes_sound (is_text name) (drop 1 declared) [] kids (drop_good 1 declared d) no_text false
    e.1 in
    let here = element_sound (own declared) name attributes content (record {
      bound = own_good declared d;
      named = a.0;
      texts = texts_of attributes a.1;
      content = inner;
    }) in
    let n = 1 + elements_in kids in
    let others = nodes_sound keep (drop n declared) [] rest (drop_good n declared d) no_text false
    k.1 in
    both (flushed keep before) _ (flushed_sound keep before t)
    (and_from (is_sound_node (node.Elem (own declared) name attributes content)) _ here others)
nodes_sound keep declared before (text x rest) d t after h =
    let k = and_parts (not after && not (is_empty_text x) && is_xml_text x)
    (are_sound_behind true rest) h in
    let e = and_parts (not after && not (is_empty_text x)) (is_xml_text x) k.0 in
    nodes_sound keep declared (before ++ x) rest d (append_text before x t e.1) true k.1
nodes_sound keep declared before (doc kids rest) d t after h = absurd cc
nodes_sound keep declared before (comment x rest) d t after h =
    nodes_sound keep declared before rest d t false
    (and_parts (is_sound_comment x) (are_sound_behind false rest) h).1
nodes_sound keep declared before (pi target x rest) d t after h =
    nodes_sound keep declared before rest d t false
    (and_parts (is_sound_pi target x) (are_sound_behind false rest) h).1
nodes_sound keep declared before (attr name x rest) d t after h = absurd cc

pub element_node_sound : (declared : List (List Binding)) (name : Name)
    (attributes : List Attribute) (kids : Forest) → are_good_declarations declared ≡ true
    → is_sound_name name ≡ true → are_sound_in_tree attributes ≡ true
    → are_sound_behind false kids ≡ true
    → is_sound_node (element_node declared name attributes kids) ≡ true
element_node_sound declared name attributes kids d n a h =
    element_sound (own declared) name attributes
    (cleaned (is_text name) (drop 1 declared) [] kids) (record {
      bound = own_good declared d;
      named = n;
      texts = texts_of attributes a;
      content = nodes_sound (is_text name) (drop 1 declared) [] kids (drop_good 1 declared d)
          no_text false h;
    })
