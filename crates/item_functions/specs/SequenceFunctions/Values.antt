-- The different values of a sequence (XQuery 1.0 and XPath 2.0 Functions and Operators, 15.1.6).
use Rattle.std.specs.Prelude.{List, map}
use Rattle.xdm_items.specs.declared.items.Item.{Item}
use Rattle.xdm_items.specs.declared.items.Item.TheVariants.{Atom}
use Rattle.order_group.specs.declared.atom_keys.tables.KeyEntry.{KeyEntry}
use Rattle.order_group.specs.Groups.{atoms_of, first_seen}

-- each value where it first stands; two atoms are one value where they are the same key
unfoldable pub distinct_values : List Item → List Item
distinct_values atoms = map Atom (first_seen (atoms_of atoms))

abbrev pub entry_value : KeyEntry → Item
entry_value e = Atom e.key
