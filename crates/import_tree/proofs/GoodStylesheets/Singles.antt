-- All that one module declares is closed.
use Rattle.std.proofs.Common.{◌≡◌, List, [], ◌∷◌, Bool, true, false, not, ◌&&◌, refl, ◌∙◌, nat_le}
use Rattle.std.proofs.lemmas.Bool.{and_parts, and_from}
use Rattle.std.proofs.lemmas.List.Folds.{list_all-append}
use Rattle.std.specs.List.{list_all}
use Rattle.xt_names.specs.declared.codes.SheetStaticCode.TheVariants.{XTSE0200, XTUN0001}
use Rattle.xt_names.specs.declared.names.Binding.{Binding}
use Rattle.xt_names.specs.declared.names.ExprName.{ExprName}
use Rattle.xt_syntax.specs.declared.exprs.Expr.{Expr}
use Rattle.xt_syntax.specs.declared.patterns.Pattern.{Pattern}
use Rattle.xt_tree.specs.Sound.{are_sound_behind, is_sound_root, is_sound_tree}
use Rattle.xt_tree.specs.TreeView.{tree_height, tree_size}
use Rattle.xt_tree.specs.declared.trees.Tree.{Tree}
use Rattle.xt_tree.specs.declared.trees.Tree.TheVariants.{Doc, Elem, Text, Comment, Pi, Attr}
use Rattle.closed_sheets.specs.Values.{is_good_binding, is_xml_binding}
use Rattle.sheet_table.specs.Elements.{xsl_element}
use Rattle.sheet_table.specs.Rules.{attribute_faults}
use Rattle.sheet_table.specs.declared.elements.XslElement.TheVariants as element
use Rattle.sheet_table.specs.declared.sheet_nodes.nodes.Node.{Node}
use Rattle.sheet_table.specs.declared.sheet_nodes.nodes.Node.TheOpen as form
use Rattle.sheet_table.specs.declared.sheet_nodes.nodes.Node.TheOpen.{Node-F}
use Rattle.sheet_table.specs.declared.sheet_nodes.nodes.Node.TheViews.{out-Node}
use Rattle.sheet_values.specs.Rules.{broken}
use Rattle.sheet_values.specs.declared.sheet_texts.places.StaticContext.{StaticContext}
use Rattle.sheet_modules.specs.declared.modules.Part.{Part}
use Rattle.closed_parts.specs.SheetParts.Tops.{top_faults, top_value}
use Rattle.loaded_sheets.specs.SheetLanguage.Language.{sheet_reading as reading}
use Rattle.module_loading.specs.ModuleReader.Links.{document_content}
use Rattle.module_loading.specs.ModuleReader.Modules.{is_import, is_late, is_stylesheet, module_nodes}
use Rattle.module_loading.specs.ModuleReader.Modules.{nodes_faults, nodes_value, parts_faults, parts_value}
use Rattle.module_loading.specs.ModuleReader.Modules.{placed_faults, root_bound, root_layer_faults}
use Rattle.module_loading.specs.ModuleReader.Modules.{root_layer_value, root_place, tops_faults, tops_value}
use Rattle.module_loading.specs.ModuleReader.Modules.{xml_binding}
use Rattle.closed_parts.specs.SoundNodes.Sound.{are_good_declarations, are_sound_nodes, is_sound_node}
use Rattle.closed_parts.proofs.SoundNodes.Forms.{SoundForm, sound_form, sound_element}
use Rattle.closed_parts.proofs.SoundNodes.Trees.{nodes_sound}
use Rattle.closed_parts.proofs.Parts.{TopPlace}
use Rattle.xt_names.proofs.ClassLemmas.{no_text}
use Rattle.xt_names.proofs.ListLemmas.{front_nil, back_nil}

xml_good : is_good_binding xml_binding ≡ true
unfolding is_good_binding is_xml_binding
xml_good = refl

pub root_good : (own : List Binding) → list_all is_good_binding own ≡ true
    → list_all is_good_binding (root_bound own) ≡ true
root_good own h =
    list_all-append is_good_binding own (xml_binding ∷ [])
    ∙ and_from (list_all is_good_binding own) _ h (and_from (is_good_binding xml_binding) _ xml_good
    refl)

tree_content : (tree : Tree) → is_sound_root tree ≡ true
    → are_sound_behind false (document_content tree) ≡ true
tree_content (Doc kids) h = h
tree_content (Elem name attributes kids) h = refl
tree_content (Text t) h = refl
tree_content (Comment t) h = refl
tree_content (Pi target t) h = refl
tree_content (Attr name t) h = refl

pub sound_module : (tree : Tree) (declared : List (List Binding)) → is_sound_tree tree ≡ true
    → are_good_declarations declared ≡ true
    → are_sound_nodes (module_nodes tree declared) ≡ true
sound_module tree declared s d =
    let k = and_parts (is_sound_root tree && nat_le (tree_height tree) 2000)
    (nat_le (tree_size tree) 0x7FFF_FFFF_FFFF_FFFF) s in
    let root = and_parts (is_sound_root tree) (nat_le (tree_height tree) 2000) k.0 in
    nodes_sound false declared [] (document_content tree) d no_text false
    (tree_content tree root.0)

-- what is asked of each declaration, and what is known of it where it breaks no rule
abbrev pub Asks : (Part Expr Pattern → Bool) → Type 0
Asks q = (p : StaticContext) → TopPlace p → (n : Node) → is_sound_node n ≡ true
    → top_faults reading p n ≡ [] → q (top_value reading p n) ≡ true

module _ (q : Part Expr Pattern → Bool) (asks : Asks q) where
  tops_closed : (p : StaticContext) → TopPlace p → (late : Bool) (ns : List Node)
      → are_sound_nodes ns ≡ true → tops_faults reading p late ns ≡ []
      → list_all q (tops_value reading p ns) ≡ true
  unfolding placed_faults
  tops_closed p t late [] h e = refl
  tops_closed p t late (n ∷ ns) h e =
      let k = and_parts (is_sound_node n) (are_sound_nodes ns) h in
      let here = back_nil (broken XTSE0200 (late && is_import n)) (top_faults reading p n)
      (front_nil (placed_faults reading p late n) _ e) in
      and_from (q (top_value reading p n)) _ (asks p t n k.0 here)
      (tops_closed p t (is_late late n) ns k.1 (back_nil (placed_faults reading p late n) _ e))

  layer_closed : (modes called : List ExprName) (f : Node-F Node) → SoundForm f
      → root_layer_faults reading modes called f ≡ []
      → list_all q (root_layer_value reading modes called f) ≡ true
  layer_closed modes called (form.Elem own name attributes kids) h e =
      let s = sound_element own name attributes kids h in
      let place = root_place own modes called in
      let t : TopPlace place =
      record { good = record { bound = root_good own s.bound }; outside = refl } in
      tops_closed place t false kids s.content
      (back_nil (attribute_faults element.Stylesheet attributes) _
      (back_nil (broken XTUN0001 (not (is_stylesheet (xsl_element name)))) _ e))
  layer_closed modes called (form.Chars c) h e = absurd cc

  nodes_closed : (modes called : List ExprName) (ns : List Node) → are_sound_nodes ns ≡ true
      → nodes_faults reading modes called ns ≡ []
      → list_all q (nodes_value reading modes called ns) ≡ true
  nodes_closed modes called [] h e = absurd cc
  nodes_closed modes called (n ∷ []) h e =
      layer_closed modes called (out-Node n)
      (sound_form n (and_parts (is_sound_node n) (are_sound_nodes []) h).0) e
  nodes_closed modes called (n ∷ m ∷ ns) h e = absurd cc

  pub module_closed : (modes called : List ExprName) (tree : Tree) (declared : List (List Binding))
      → is_sound_tree tree ≡ true → are_good_declarations declared ≡ true
      → parts_faults reading modes called tree declared ≡ []
      → list_all q (parts_value reading modes called tree declared) ≡ true
  unfolding parts_faults parts_value
  module_closed modes called tree declared s d e =
      nodes_closed modes called (module_nodes tree declared) (sound_module tree declared s d) e
