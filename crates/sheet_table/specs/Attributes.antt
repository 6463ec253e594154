-- The attributes of one element.
use Rattle.std.specs.Prelude.{ℕ, List, [], ◌∷◌, Bool, ◌&&◌, Option, Some, None, if◌then◌else◌}
use Rattle.std.specs.List.{list_any}
use Rattle.std.specs.Str.{bytes_eq}
use Rattle.xt_names.specs.Allowed.{is_empty_text}
use Rattle.xt_tree.specs.declared.attributes.Attribute.{Attribute}

abbrev pub is_named : List ℕ → Attribute → Bool
is_named local a = is_empty_text a.name.uri && bytes_eq a.name.local local

-- the value of the attribute without uri that has this local name
abbrev pub attribute : List Attribute → List ℕ → Option (List ℕ)
attribute [] local = None
attribute (a ∷ rest) local = if is_named local a then Some a.value else attribute rest local

abbrev pub has : List Attribute → List ℕ → Bool
has attributes local = list_any (is_named local) attributes
