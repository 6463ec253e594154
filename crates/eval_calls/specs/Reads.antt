-- What a function reads of the focus (XPath 2.0, 3.1.5).
use Rattle.std.specs.Prelude.{List, Option, Some, None}
use Rattle.xdm_items.specs.declared.items.Item.{Item}
use Rattle.expr_meaning.specs.SortMeaning.Sorted.{Placed}
use Rattle.expr_meaning.specs.Calls.{position_of, size_of, text_of_item, item_of}
use Rattle.eval_calls.specs.declared.arguments.Read.{Read}
use Rattle.eval_calls.specs.declared.arguments.Read.TheVariants as read

abbrev pub read_at : Read → Placed Item → List Item
read_at read.Position = position_of
read_at read.Size = size_of
read_at read.Text = text_of_item
read_at read.Item = item_of

abbrev pub reads : Option Read → Option (Placed Item → List Item)
reads None = None
reads (Some r) = Some (read_at r)
