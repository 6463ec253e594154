-- What a contract sees of a sequence that is walked on demand.
use Rattle.std.specs.Prelude.{ℕ, zero, suc, ℤ, pos, negsuc, slice_get, List, [], ◌∷◌, Option, Some}
use Rattle.std.specs.Prelude.{None}
use Rattle.xdm_items.specs.declared.items.Item.{Item}
use Rattle.node_walks.specs.Moves.{Moves}

-- what it still does, move by move, and a number that falls with each part that is put away
pub record Flow : Type 0 where
  pub moves : Moves
  pub weight : ℕ

-- the giving of the items, without a step
abbrev pub giving_all : List Item → Moves
giving_all [] = []
giving_all (x ∷ xs) = Some x ∷ giving_all xs

-- the item at a place, which counts from 1
abbrev pub item_at : ℤ → List Item → Option Item
item_at (pos zero) items = None
item_at (pos (suc n)) items = slice_get items n
item_at (negsuc n) items = None
