-- The uri of a prefix, by its first binding.
use Rattle.std.proofs.Common.{◌≡◌, ℕ, List, [], ◌∷◌, Bool, true, false, Option, Some, None, refl, sym, ap, ◌∙◌, if◌then◌else◌}
use Rattle.std.specs.Str.{bytes_eq}
use Rattle.xt_names.specs.declared.names.Binding.{Binding}
use Rattle.bound_prefixes.specs.First.{first_uri}
use Rattle.xt_names.specs.ExprNames.{uri_of}

abbrev pub or_empty : Option (List ℕ) → List ℕ
or_empty None = []
or_empty (Some uri) = uri

branches : (e : Bool) (uri rest : List ℕ) (later : Option (List ℕ)) → rest ≡ or_empty later
    → (if e then uri else rest) ≡ or_empty (if e then Some uri else later)
branches true uri rest later h = refl
branches false uri rest later h = h

first_counts : (bound : List Binding) (prefix : List ℕ) → uri_of bound prefix ≡ or_empty (first_uri bound prefix)
first_counts [] prefix = refl
first_counts (b ∷ bs) prefix =
    branches (bytes_eq b.prefix prefix) b.uri (uri_of bs prefix) (first_uri bs prefix) (first_counts bs prefix)

pub uri_found : (bound : List Binding) (prefix uri : List ℕ) → first_uri bound prefix ≡ Some uri
    → uri_of bound prefix ≡ uri
uri_found bound prefix uri h = first_counts bound prefix ∙ ap or_empty h

pub no_uri : (bound : List Binding) (prefix : List ℕ) → first_uri bound prefix ≡ None
    → uri_of bound prefix ≡ []
no_uri bound prefix h = first_counts bound prefix ∙ ap or_empty h
