-- What is known of sound nodes, and of places within them.
use Rattle.std.proofs.Common.{◌≡◌, ℕ, List, [], ◌∷◌, Bool, true, false, cond, not, ◌&&◌}
use Rattle.std.proofs.Common.{Option, Some, None, ◌∙◌}
use Rattle.std.proofs.lemmas.Bool.{and_parts, and_from}
use Rattle.std.proofs.lemmas.List.Folds.{list_all-append}
use Rattle.std.specs.List.{list_all}
use Rattle.xt_names.specs.Classes.{is_xml_text}
use Rattle.xt_names.specs.declared.names.Binding.{Binding}
use Rattle.xt_names.specs.declared.names.Name.{Name}
use Rattle.xt_tree.specs.Sound.{is_sound_name as is_tree_name, is_sound_attribute, is_named_xmlns}
use Rattle.xt_tree.specs.declared.attributes.Attribute.{Attribute}
use Rattle.closed_queries.specs.Texts.{is_sound_name, is_sound_attribute_name}
use Rattle.closed_parts.proofs.SoundNodes.Forms.{SoundForm, sound_form}
use Rattle.closed_sheets.specs.Values.{is_good_binding}
use Rattle.sheet_heads.specs.Characters.{layer_characters, node_characters, characters_value}
use Rattle.sheet_table.specs.declared.sheet_nodes.nodes.Node.{Node}
use Rattle.sheet_table.specs.declared.sheet_nodes.nodes.Node.TheViews.{out-Node}
use Rattle.sheet_table.specs.declared.sheet_nodes.nodes.Node.TheOpen.{Node-F, Elem, Chars}
use Rattle.sheet_table.specs.Attributes.{attribute, is_named}
use Rattle.sheet_values.specs.SheetTexts.Places.{within}
use Rattle.sheet_values.specs.declared.sheet_texts.places.StaticContext.{StaticContext}
use Rattle.closed_parts.specs.SoundNodes.Sound.{are_sound_attributes, is_sound_node, are_sound_nodes}
use Rattle.xt_names.proofs.ClassLemmas.{append_text, no_text}

-- bindings of a place within an element
pub good_within : (p : StaticContext) (own : List Binding) → list_all is_good_binding p.bound ≡ true
    → list_all is_good_binding own ≡ true → list_all is_good_binding (within p own).bound ≡ true
good_within p own h i =
    list_all-append is_good_binding own p.bound
    ∙ and_from (list_all is_good_binding own) _ i h

-- names and texts of attributes
record SoundAttribute (name : Name) (value : List ℕ) : Type 0 where
  named : is_sound_attribute_name name ≡ true
  text : is_xml_text value ≡ true

pub same_name : (name : Name) → is_tree_name name ≡ true → is_sound_name name ≡ true
unfolding is_tree_name is_sound_name
same_name name h = h

sound_attribute : (name : Name) (value : List ℕ) → is_sound_attribute name value ≡ true
    → SoundAttribute name value
unfolding is_sound_attribute is_named_xmlns is_sound_attribute_name is_tree_name is_sound_name
sound_attribute name value h =
    let k = and_parts (is_tree_name name && not (is_named_xmlns name)) (is_xml_text value) h in
    record { named = k.0; text = k.1 }

pub record SoundFirst (a : Attribute) (more : List Attribute) : Type 0 where
  pub named : is_sound_attribute_name a.name ≡ true
  pub text : is_xml_text a.value ≡ true
  pub others : are_sound_attributes more ≡ true

pub sound_first : (a : Attribute) (more : List Attribute)
    → are_sound_attributes (a ∷ more) ≡ true → SoundFirst a more
sound_first a more h =
    let k = and_parts (is_sound_attribute a.name a.value) (are_sound_attributes more) h in
    let s = sound_attribute a.name a.value k.0 in
    record { named = s.named; text = s.text; others = k.1 }

-- the text of an attribute, where it stands
abbrev pub IfText : Option (List ℕ) → Type 0
IfText None = Unit {0}
IfText (Some text) = is_xml_text text ≡ true

pub attribute_text : (attributes : List Attribute) (local : List ℕ)
    → are_sound_attributes attributes ≡ true → IfText (attribute attributes local)
attribute_text [] local h = tt
attribute_text (a ∷ more) local h =
    let k = sound_first a more h in
    go (is_named local a) k.text (attribute_text more local k.others)
  where
    go : (b : Bool) → is_xml_text a.value ≡ true → IfText (attribute more local)
        → IfText (cond b (Some a.value) (attribute more local))
    go true t others = t
    go false t others = others

layer_text : (f : Node-F Node) → SoundForm f → is_xml_text (layer_characters f) ≡ true
layer_text (Elem own name attributes kids) h = no_text
layer_text (Chars t) h = h

node_text : (n : Node) → is_sound_node n ≡ true → is_xml_text (node_characters n) ≡ true
unfolding node_characters
node_text n h = layer_text (out-Node n) (sound_form n h)

pub characters_text : (kids : List Node) → are_sound_nodes kids ≡ true
    → is_xml_text (characters_value kids) ≡ true
characters_text [] h = no_text
characters_text (n ∷ ns) h =
    let k = and_parts (is_sound_node n) (are_sound_nodes ns) h in
    append_text (node_characters n) (characters_value ns) (node_text n k.0)
    (characters_text ns k.1)
