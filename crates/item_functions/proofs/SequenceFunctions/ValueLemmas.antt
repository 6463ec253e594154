-- The keys of a table are the values in the order in which they were first seen.
use Rattle.std.proofs.Common.{◌≡◌, List, [], ◌∷◌, ◌++◌, map, Option, Some, None, false, ap, sym, ◌∙◌}
use Rattle.std.proofs.lemmas.List.{append-nil}
use Rattle.std.proofs.lemmas.Simd.{map-map}
use Rattle.xt_atoms.specs.declared.atoms.Atom.{Atom as AtomValue}
use Rattle.xt_atoms.specs.declared.atoms.Atom.TheVariants.{Bool as Truth}
use Rattle.xdm_items.specs.declared.items.Item.{Item}
use Rattle.xdm_items.specs.declared.items.Item.TheVariants.{Atom}
use Rattle.order_group.specs.Groups.{atoms_of, first_seen, key_group}
use Rattle.order_group.specs.Steps.{with_row, entry_group}
use Rattle.order_group.specs.declared.groups.Group.{Group}
use Rattle.order_group.proofs.KeyedGroups.{all_grouped}
use Rattle.item_functions.specs.SequenceFunctions.Values.{distinct_values, entry_value}

value_of : Option AtomValue → Item
value_of (Some a) = Atom a
value_of None = Atom (Truth false)

group_value : Group → Item
group_value g = value_of g.key

pub values_seen : (atoms : List Item) → map entry_value (with_row [] (atoms_of atoms) 0) ≡ distinct_values atoms
unfolding distinct_values group_value value_of
values_seen atoms =
    sym (map-map group_value entry_group (with_row [] (atoms_of atoms) 0))
    ∙ ap (map group_value) (all_grouped (atoms ∷ []))
    ∙ map-map group_value (key_group (atoms_of atoms ∷ [])) (first_seen (atoms_of atoms ++ []))
    ∙ ap (λ l. map Atom (first_seen l)) (append-nil (atoms_of atoms))
