-- What a contract sees of a list of items.
use Rattle.std.specs.Prelude.{List, [], ◌∷◌}
use Rattle.xdm_items.specs.declared.items.Item.{Item}
use Rattle.xdm_items.specs.declared.lists.HeldItems.{HeldItems}
use Rattle.xdm_items.specs.declared.lists.HeldItems.TheVariants.{Empty, One, Many}

abbrev pub held_items : HeldItems → List Item
held_items Empty = []
held_items (One item) = item ∷ []
held_items (Many items) = items.items
