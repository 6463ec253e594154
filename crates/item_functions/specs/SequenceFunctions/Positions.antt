-- The items of a sequence by their positions, which count from 1 (XQuery 1.0 and XPath 2.0
-- Functions and Operators, 15.1.3, 15.1.7, 15.1.8 and 15.1.10). Positions are whole numbers
-- without limit.
use Rattle.std.specs.Prelude.{ℕ, zero, suc, List, [], ◌∷◌, ◌++◌, length, take, drop, Bool, false, not, ◌&&◌, nat_lt, ◌^◌, ℤ, pos, negsuc, ◌+ℤ◌, int_lt, Result, Ok, Err, if◌then◌else◌}
use Rattle.std.specs.Ordering.{int_eq}
use Rattle.xt_names.specs.declared.codes.Code.{Code}
use Rattle.xt_names.specs.declared.codes.Code.TheVariants.{Dynamic}
use Rattle.xt_names.specs.declared.codes.DynamicCode.TheVariants.{FOAR0002}
use Rattle.xt_atoms.specs.Keys.{key_same}
use Rattle.xt_atoms.specs.declared.atoms.Atom.{Atom as AtomValue}
use Rattle.xt_atoms.specs.declared.atoms.Atom.TheVariants.{Int}
use Rattle.xdm_items.specs.declared.items.Item.{Item}
use Rattle.xdm_items.specs.declared.items.Item.TheVariants.{Node, Atom}

-- the items at the positions that pass, the first item having the position n
abbrev pub items_at : (ℤ → Bool) → ℕ → List Item → List Item
items_at passes n [] = []
items_at passes n (item ∷ items) = if passes (pos n) then item ∷ items_at passes (suc n) items else items_at passes (suc n) items

-- the positions p with start <= p
unfoldable pub from_start : List Item → ℤ → List Item
from_start items start = items_at (λ p. not (int_lt p start)) 1 items

-- the positions p with start <= p and p < start + length
unfoldable pub from_start_so_many : List Item → ℤ → ℤ → List Item
from_start_so_many items start long = items_at (λ p. not (int_lt p start) && int_lt p (start +ℤ long)) 1 items

-- all positions but one
unfoldable pub removed : List Item → ℤ → List Item
removed items position = items_at (λ p. not (int_eq p position)) 1 items

-- how many items come before a position, where there are enough; before a position below 1 none
-- does
abbrev pub before : ℤ → ℕ
before (pos zero) = 0
before (pos (suc n)) = n
before (negsuc n) = 0

-- the inserted items stand first where the position is below 1, and last where it is past the end
unfoldable pub inserted_before : List Item → ℤ → List Item → List Item
inserted_before items position inserts = take (before position) items ++ inserts ++ drop (before position) items

abbrev pub is_value : AtomValue → Item → Bool
is_value value (Atom a) = key_same value a
is_value value (Node n) = false

-- the positions of the items that are the same value, the first item having the position n
abbrev pub positions_of : AtomValue → ℕ → List Item → List Item
positions_of value n [] = []
positions_of value n (item ∷ items) = if is_value value item then Atom (Int (pos n)) ∷ positions_of value (suc n) items else positions_of value (suc n) items

-- positions are integers, and so a sequence with more items than the greatest integer is an error
unfoldable pub index_of : List Item → AtomValue → Result (List Item) Code
index_of items value = if nat_lt (length items) (2 ^ 63) then Ok (positions_of value 1 items) else Err (Dynamic FOAR0002)
