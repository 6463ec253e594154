-- What a walk still does, move by move: None is a step to the next node of an axis or past its end, Some item the giving of it.
use Rattle.std.specs.Prelude.{ℕ, ◌+◌, List, [], ◌∷◌, Bool, true, false, Option, Some, None}
use Rattle.xdm_items.specs.declared.items.Item.{Item}

abbrev pub Moves : Type 0
Moves = List (Option Item)

-- the items that it gives
abbrev pub given : Moves → List Item
given [] = []
given (None ∷ moves) = given moves
given (Some x ∷ moves) = x ∷ given moves

-- how many steps come before the first item, or else before the end
abbrev pub steps_before : Moves → ℕ
steps_before [] = 0
steps_before (None ∷ moves) = steps_before moves + 1
steps_before (Some x ∷ moves) = 0

-- how many steps it takes in all
abbrev pub all_steps : Moves → ℕ
all_steps [] = 0
all_steps (None ∷ moves) = all_steps moves + 1
all_steps (Some x ∷ moves) = all_steps moves

-- what is left once it stands before its first item, or at its end
abbrev pub settled : Moves → Moves
settled [] = []
settled (None ∷ moves) = settled moves
settled (Some x ∷ moves) = Some x ∷ moves

-- the item before which it stands
abbrev pub standing : Moves → Option Item
standing [] = None
standing (m ∷ moves) = m

-- without the item before which it stands
abbrev pub passed : Moves → Moves
passed [] = []
passed (None ∷ moves) = None ∷ moves
passed (Some x ∷ moves) = moves

abbrev pub has_item : List Item → Bool
has_item [] = false
has_item (x ∷ xs) = true

-- the giving of an item, if it is one
abbrev pub giving : Option Item → Moves
giving None = []
giving (Some x) = Some x ∷ []
