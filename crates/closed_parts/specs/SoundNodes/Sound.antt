-- Nodes of a stylesheet with names, texts and declarations of namespaces that XML allows, as those
-- of a document are that was read (XML 1.0, 2.2; Namespaces in XML 1.0, 3).
use Rattle.std.specs.Prelude.{List, Bool, ◌&&◌}
use Rattle.std.specs.List.{list_all}
use Rattle.xt_names.specs.Classes.{is_xml_text}
use Rattle.xt_names.specs.declared.names.Binding.{Binding}
use Rattle.xt_tree.specs.Sound.{is_sound_name, is_sound_attribute}
use Rattle.xt_tree.specs.declared.attributes.Attribute.{Attribute}
use Rattle.closed_sheets.specs.Values.{is_good_binding}
use Rattle.sheet_table.specs.declared.sheet_nodes.nodes.Node.{Node}
use Rattle.sheet_table.specs.declared.sheet_nodes.nodes.Node.TheFolds.{fold-Node}
use Rattle.sheet_table.specs.declared.sheet_nodes.nodes.Node.TheOpen.{Node-F, Elem, Chars}

abbrev pub are_sound_attributes : List Attribute → Bool
are_sound_attributes attributes = list_all (λ a. is_sound_attribute a.name a.value) attributes

abbrev pub sound_layer : Node-F Bool → Bool
sound_layer (Elem own name attributes kids) =
    list_all is_good_binding own
    && (is_sound_name name && (are_sound_attributes attributes && list_all (λ b. b) kids))
sound_layer (Chars t) = is_xml_text t

unfoldable pub is_sound_node : Node → Bool
is_sound_node = fold-Node Bool sound_layer

abbrev pub are_sound_nodes : List Node → Bool
are_sound_nodes nodes = list_all is_sound_node nodes

-- the declarations of each element are those that may stand, or that of the prefix xml
abbrev pub are_good_declarations : List (List Binding) → Bool
are_good_declarations declared = list_all (λ own. list_all is_good_binding own) declared
