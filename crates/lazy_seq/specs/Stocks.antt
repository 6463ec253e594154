-- What a contract sees of items that are held.
use Rattle.std.specs.Prelude.{List}
use Rattle.std.specs.Option.{option_to_list}
use Rattle.xdm_items.specs.declared.items.Item.{Item}
use Rattle.lazy_seq.specs.declared.stocks.Held.{Held}
use Rattle.lazy_seq.specs.declared.stocks.Held.TheVariants.{One, Many}

abbrev pub held_items : Held → List Item
held_items (One item) = option_to_list item
held_items (Many items) = items.items
