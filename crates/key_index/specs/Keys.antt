-- The nodes that have a key (XSLT 2.0, 16.3).
use Rattle.std.specs.Prelude.{ℕ, suc, Bool, List, [], ◌∷◌, filter, Option, Some, None}
use Rattle.std.specs.List.{list_any}
use Rattle.xt_atoms.specs.Keys.{key_same}
use Rattle.xt_atoms.specs.declared.atoms.Atom.{Atom}
use Rattle.xdm_items.specs.declared.items.Item.{Item}
use Rattle.xdm_items.specs.declared.items.Item.TheVariants as item
use Rattle.order_group.specs.AtomKeys.Tables.{with_place}
use Rattle.order_group.specs.declared.atom_keys.tables.KeyEntry.{KeyEntry}
use Rattle.order_group.specs.Groups.{atoms_of, has_key}
use Rattle.key_index.specs.Nodes.{put_node}
use Rattle.key_index.specs.declared.indexes.KeyPair.{KeyPair}

-- with the nodes of the pairs, each of them once
abbrev pub put_pairs : List Item → List KeyPair → List Item
put_pairs items [] = items
put_pairs items (p ∷ pairs) = put_pairs (put_node items p.node) pairs

-- the nodes that have a value that is the same as a given one, in the order of the pairs, each of them once
abbrev pub key_nodes : List KeyPair → List Item → List Item
key_nodes pairs values = put_pairs [] (filter (λ p. has_key p.value (atoms_of values)) pairs)

-- the atom that is the only item
abbrev pub only_atom : List Item → Option Atom
only_atom [] = None
only_atom (item.Atom a ∷ []) = Some a
only_atom (item.Node n ∷ []) = None
only_atom (x ∷ y ∷ values) = None

-- with the places of the pairs, from n on, under their values
abbrev pub with_pairs : List KeyEntry → ℕ → List KeyPair → List KeyEntry
with_pairs entries n [] = entries
with_pairs entries n (p ∷ pairs) = with_pairs (with_place entries p.value n) (suc n) pairs

abbrev pub put_found : List Item → Option KeyPair → List Item
put_found items None = items
put_found items (Some p) = put_node items p.node

-- with the nodes of the pairs at the places, each of them once
abbrev pub put_places : (ℕ → Option KeyPair) → List Item → List ℕ → List Item
put_places at items [] = items
put_places at items (n ∷ places) = put_places at (put_found items (at n)) places

-- whether the value of the pair is the same as one of the keys
abbrev pub has_one : List KeyEntry → KeyPair → Bool
has_one keys p = list_any (λ e. key_same e.key p.value) keys
