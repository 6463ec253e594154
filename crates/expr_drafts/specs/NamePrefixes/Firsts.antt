-- The first prefix of a uri (Namespaces in XML 1.0, 4; XPath 2.0, 2.1.1).
use Rattle.std.specs.Prelude.{ℕ, Bool, not, ◌&&◌, List, [], ◌∷◌, Option, Some, None}
use Rattle.std.specs.Prelude.{if◌then◌else◌}
use Rattle.std.specs.Str.{bytes_eq}
use Rattle.xt_names.specs.Allowed.{is_empty_text}
use Rattle.xt_names.specs.declared.names.Binding.{Binding}
use Rattle.xt_names.specs.ExprNames.{uri_of}

-- whether the prefix is declared and has the uri
abbrev pub has_uri : List Binding → List ℕ → List ℕ → Bool
has_uri bound prefix uri =
    bytes_eq (uri_of bound prefix) uri && not (is_empty_text (uri_of bound prefix))

-- whether names can be written with the prefix of the binding, and have the uri then
abbrev pub names_by : List Binding → Binding → List ℕ → Bool
names_by bound b uri = not (is_empty_text b.prefix) && has_uri bound b.prefix uri

-- the prefix at one uri alone
abbrev pub prefix_at : List ℕ → List ℕ → List ℕ → Option (List ℕ)
prefix_at uri prefix key = if bytes_eq uri key then Some prefix else None

-- the prefix of the binding, where names of the uri can be written with it
abbrev pub prefix_by : List Binding → Binding → List ℕ → Option (List ℕ)
prefix_by bound b uri = if names_by bound b uri then Some b.prefix else None

-- the first such prefix of these bindings
abbrev pub first_prefix : List Binding → List Binding → List ℕ → Option (List ℕ)
first_prefix bound [] uri = None
first_prefix bound (b ∷ bs) uri =
    if names_by bound b uri then Some b.prefix else first_prefix bound bs uri

-- .. and of all that are bound
abbrev pub prefix_of : List Binding → List ℕ → Option (List ℕ)
prefix_of bound uri = first_prefix bound bound uri
