-- Characters that are doubled where they stand alone (XQuery 1.0, 3.7.1.1 and 3.7.1.3).
use Rattle.std.specs.Prelude.{ℕ, Bool, false, ◌||◌, List, [], ◌∷◌}
use Rattle.std.specs.Str.{bytes_eq}
use Rattle.query_pieces.specs.declared.contexts.Context.{Context}
use Rattle.query_pieces.specs.declared.contexts.Context.TheVariants.{Attribute as attribute}

-- a quote in the value of an attribute
abbrev pub is_quote : Context → List ℕ → Bool
is_quote (attribute q) cs = bytes_eq cs (34 ∷ [])
is_quote _ cs = false

abbrev pub is_brace : List ℕ → Bool
is_brace cs = bytes_eq cs (123 ∷ []) || bytes_eq cs (125 ∷ [])

-- a brace, or a quote in the value of an attribute
abbrev pub is_doubled_alone : Context → List ℕ → Bool
is_doubled_alone x cs = is_brace cs || is_quote x cs
