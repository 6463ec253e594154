-- The order of items: nodes by the number of the tree and then in document order; atoms stand
-- before them.
use Rattle.std.specs.Prelude.{ℕ, List, [], ◌∷◌, Bool}
use Rattle.std.specs.List.{dedup}
use Rattle.std.specs.Cmp.Lexicographic.{slice_cmp}
use Rattle.std.specs.Ordering.{is_lt, eq_by_cmp}
use Rattle.std.specs.declared.cmp.Ordering.{Ordering}
use Rattle.xt_tree.specs.Place.{steps, step_cmp}
use Rattle.xdm_items.specs.declared.items.Item.{Item}
use Rattle.xdm_items.specs.declared.items.Item.TheVariants.{Node, Atom}
use Rattle.xt_names.specs.Lists.{stable_order}

-- the number of the tree, and the way to the node
unfoldable pub item_key : Item → List (ℕ × ℕ)
item_key (Node n) = (n.number, 0) ∷ steps n.path n.attribute
item_key (Atom a) = []

unfoldable pub item_cmp : Item → Item → Ordering
item_cmp x y = slice_cmp step_cmp (item_key x) (item_key y)

abbrev pub stands_before : Item → Item → Bool
stands_before x y = is_lt (item_cmp x y)

-- the nodes in order, each once: of those at one place the first of the list
abbrev pub in_document_order : List Item → List Item
in_document_order items = dedup (eq_by_cmp item_cmp) (stable_order stands_before items)
