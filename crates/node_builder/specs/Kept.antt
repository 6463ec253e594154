-- The attributes that are kept, from the end on.
use Rattle.std.specs.Prelude.{List, [], ◌∷◌, Bool, true, false}
use Rattle.xt_tree.specs.declared.attributes.Attribute.{Attribute}

-- the attribute itself, if its name is new
abbrev pub kept_one : Bool → Attribute → List Attribute
kept_one true a = a ∷ []
kept_one false a = []
