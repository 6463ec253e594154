-- The table of variables by their names.
use Rattle.std.specs.Prelude.{◌≡◌, ℕ, suc, List, [], ◌∷◌, Option, Some, None, if◌then◌else◌}
use Rattle.std.specs.Prelude.{slice_get}
use Rattle.indexmap.specs.IndexMap.{IndexMap, get}
use Rattle.xt_names.specs.declared.names.ExprName.{ExprName}
use Rattle.xdm_items.specs.declared.items.Item.{Item}
use Rattle.eval_scopes.specs.NodeWalks.Moves.{given}
use Rattle.eval_scopes.specs.declared.scopes.Variable.{Variable}
use Rattle.xt_names.specs.ExprNames.{same_name}

-- the place of what has the first name, or what was found before
abbrev pub place_or : ExprName → ℕ → Option ℕ → ExprName → Option ℕ
place_or first place found name = if same_name first name then Some place else found

-- the place of the last variable of the name, where the list begins at a place; or what was found
-- before the list
abbrev pub last_place : Option ℕ → ℕ → List Variable → ExprName → Option ℕ
last_place found n [] name = found
last_place found n (v ∷ vs) name = last_place (place_or v.name n found name) (suc n) vs name

-- under each name stands the place of the last variable that has it
abbrev pub IsTableOf : {S : Type 0} → List Variable → IndexMap ExprName ℕ S → Type 0
IsTableOf vs places = (name : ExprName) → get same_name places name ≡ last_place None 0 vs name

abbrev pub value_in : Option Variable → Option (List Item)
value_in None = None
value_in (Some v) = Some (given v.value.moves)

-- the items of the variable at a place
abbrev pub value_there : List Variable → Option ℕ → Option (List Item)
value_there vs None = None
value_there vs (Some i) = value_in (slice_get vs i)
