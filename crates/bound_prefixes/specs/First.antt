-- What a prefix is bound to (Namespaces in XML 1.0).
use Rattle.std.specs.Prelude.{ℕ, List, [], ◌∷◌, Option, Some, None, if◌then◌else◌}
use Rattle.std.specs.Str.{bytes_eq}
use Rattle.xt_names.specs.declared.names.Binding.{Binding}

-- the uri of the first binding of the prefix
abbrev pub first_uri : List Binding → List ℕ → Option (List ℕ)
first_uri [] prefix = None
first_uri (b ∷ bs) prefix = if bytes_eq b.prefix prefix then Some b.uri else first_uri bs prefix

-- what is found, or else what stands further behind
abbrev pub or_later : Option (List ℕ) → Option (List ℕ) → Option (List ℕ)
or_later None later = later
or_later (Some uri) later = Some uri

-- what one binding binds
abbrev pub bound_by : Binding → List ℕ → Option (List ℕ)
bound_by b prefix = if bytes_eq b.prefix prefix then Some b.uri else None
