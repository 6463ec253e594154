-- Sound nodes by their forms.
use Rattle.std.proofs.Common.{◌≡◌, ℕ, List, [], ◌∷◌, map, Bool, true, ◌&&◌, refl, sym, ap, ◌∙◌}
use Rattle.std.proofs.lemmas.Bool.{and_parts, and_from}
use Rattle.std.specs.List.{list_all}
use Rattle.xt_names.specs.Classes.{is_xml_text}
use Rattle.xt_names.specs.declared.names.Binding.{Binding}
use Rattle.xt_names.specs.declared.names.Name.{Name}
use Rattle.xt_tree.specs.Sound.{is_sound_name}
use Rattle.xt_tree.specs.declared.attributes.Attribute.{Attribute}
use Rattle.closed_sheets.specs.Values.{is_good_binding}
use Rattle.sheet_table.specs.declared.sheet_nodes.nodes.Node.{Node}
use Rattle.sheet_table.specs.declared.sheet_nodes.nodes.Node.TheVariants as node
use Rattle.sheet_table.specs.declared.sheet_nodes.nodes.Node.TheVariants.{rolls-Elem, rolls-Chars}
use Rattle.sheet_table.specs.declared.sheet_nodes.nodes.Node.TheViews.{out-Node, roll-Node}
use Rattle.sheet_table.specs.declared.sheet_nodes.nodes.Node.TheFolds.{fold_out-Node, fold-roll-Node, map-Node}
use Rattle.sheet_table.specs.declared.sheet_nodes.nodes.Node.TheOpen.{Node-F, Elem, Chars}
use Rattle.closed_parts.specs.SoundNodes.Sound.{are_sound_attributes, sound_layer, is_sound_node}
use Rattle.closed_parts.specs.SoundNodes.Sound.{are_sound_nodes}

abbrev pub SoundForm : Node-F Node → Type 0
SoundForm f = sound_layer (map-Node Node Bool is_sound_node f) ≡ true

pub sound_form : (n : Node) → is_sound_node n ≡ true → SoundForm (out-Node n)
unfolding is_sound_node
sound_form n h = sym (fold_out-Node _ _ n) ∙ h

form_sound : (f : Node-F Node) → SoundForm f → is_sound_node (roll-Node f) ≡ true
unfolding is_sound_node
form_sound f h = fold-roll-Node _ _ f ∙ h

pub rolled_form : (f : Node-F Node) → is_sound_node (roll-Node f) ≡ true → SoundForm f
unfolding is_sound_node
rolled_form f h = sym (fold-roll-Node _ _ f) ∙ h

same_all : (ns : List Node) → list_all (λ b. b) (map is_sound_node ns) ≡ are_sound_nodes ns
same_all [] = refl
same_all (n ∷ ns) = ap (λ b. is_sound_node n && b) (same_all ns)

pub record SoundElement (own : List Binding) (name : Name) (attributes : List Attribute)
    (kids : List Node) : Type 0 where
  pub bound : list_all is_good_binding own ≡ true
  pub named : is_sound_name name ≡ true
  pub texts : are_sound_attributes attributes ≡ true
  pub content : are_sound_nodes kids ≡ true

pub sound_element : (own : List Binding) (name : Name) (attributes : List Attribute)
    (kids : List Node) → SoundForm (Elem own name attributes kids)
    → SoundElement own name attributes kids
sound_element own name attributes kids h =
    let a = and_parts (list_all is_good_binding own) _ h in
    let b = and_parts (is_sound_name name) _ a.1 in
    let c = and_parts (are_sound_attributes attributes) _ b.1 in
    record { bound = a.0; named = b.0; texts = c.0; content = sym (same_all kids) ∙ c.1 }

pub element_sound : (own : List Binding) (name : Name) (attributes : List Attribute)
    (kids : List Node) → SoundElement own name attributes kids
    → is_sound_node (node.Elem own name attributes kids) ≡ true
element_sound own name attributes kids s =
    ap is_sound_node (sym (rolls-Elem own name attributes kids))
    ∙ form_sound (Elem own name attributes kids) (and_from (list_all is_good_binding own) _ s.bound
    (and_from (is_sound_name name) _ s.named
    (and_from (are_sound_attributes attributes) _ s.texts (same_all kids ∙ s.content))))

pub chars_sound : (t : List ℕ) → is_xml_text t ≡ true → is_sound_node (node.Chars t) ≡ true
chars_sound t h = ap is_sound_node (sym (rolls-Chars t)) ∙ form_sound (Chars t) h
