-- Items that a constructor may take.
use Rattle.std.specs.Prelude.{List, Bool}
use Rattle.std.specs.List.{list_all}
use Rattle.xt_names.specs.Classes.{is_xml_text}
use Rattle.xt_atoms.specs.AtomTexts.{text_of}
use Rattle.xt_tree.specs.Sound.{is_sound_tree}
use Rattle.xdm_items.specs.declared.items.Item.{Item}
use Rattle.xdm_items.specs.declared.items.Item.TheVariants.{Node, Atom}

-- a node of a sound tree, or an atom whose text has characters of XML alone
abbrev pub is_sound_item : Item → Bool
is_sound_item (Node n) = is_sound_tree n.tree
is_sound_item (Atom a) = is_xml_text (text_of a)

unfoldable pub are_sound_items : List Item → Bool
are_sound_items items = list_all is_sound_item items
