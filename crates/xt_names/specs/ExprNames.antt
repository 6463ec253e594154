-- Names in expressions, and what prefixes are bound to.
use Rattle.std.specs.Prelude.{ℕ, List, [], ◌∷◌, Bool, ◌&&◌, if◌then◌else◌, codes}
use Rattle.std.specs.Str.{bytes_eq}
use Rattle.xt_names.specs.declared.names.Binding.{Binding}
use Rattle.xt_names.specs.declared.names.ExprName.{ExprName}

abbrev pub same_name : ExprName → ExprName → Bool
same_name a b = bytes_eq a.uri b.uri && bytes_eq a.local b.local

-- a name of a function of the library
abbrev pub library_name : List ℕ → ExprName
library_name local = record { uri = codes "http://www.w3.org/2005/xpath-functions"; local = local }

abbrev pub binding : List ℕ → List ℕ → Binding
binding prefix uri = record { prefix = prefix; uri = uri }

-- the uri of the first binding of the prefix, or none
abbrev pub uri_of : List Binding → List ℕ → List ℕ
uri_of [] prefix = []
uri_of (b ∷ bs) prefix = if bytes_eq b.prefix prefix then b.uri else uri_of bs prefix
