-- Sound values: what documents and the parts of a query that breaks no rule are made of.
use Rattle.std.specs.Prelude.{◌≡◌, ◌&&◌, Bool, true}
use Rattle.xt_names.specs.Classes.{is_xml_text}
use Rattle.xt_tree.specs.Place.{has_place}
use Rattle.xt_tree.specs.Sound.{is_sound_name, is_sound_tree}
use Rattle.xt_atoms.specs.declared.atoms.Atom.{Atom as AtomValue}
use Rattle.xt_atoms.specs.declared.atoms.Atom.TheVariants as atom
use Rattle.xdm_items.specs.declared.items.Item.{Item}
use Rattle.xdm_items.specs.declared.items.Item.TheVariants.{Node, Atom}

-- a text has characters of XML alone, and a name is one that XML and its namespaces allow
abbrev pub is_sound_atom : AtomValue → Bool
is_sound_atom (atom.Str text) = is_xml_text text
is_sound_atom (atom.Untyped text) = is_xml_text text
is_sound_atom (atom.Int number) = true
is_sound_atom (atom.Bool truth) = true
is_sound_atom (atom.QName name) = is_sound_name name

-- a node has its place in a sound tree
abbrev pub is_sound_value : Item → Bool
is_sound_value (Node n) = is_sound_tree n.tree && has_place n
is_sound_value (Atom a) = is_sound_atom a

abbrev pub IsSound : Item → Type 0
IsSound x = is_sound_value x ≡ true
