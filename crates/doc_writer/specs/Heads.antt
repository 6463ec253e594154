-- What the start tag of an element declares, and the prefixes that it writes.
use Rattle.std.specs.Prelude.{ℕ, List, [], ◌∷◌, ◌++◌, Bool, not, ◌&&◌, if◌then◌else◌}
use Rattle.std.specs.List.{list_any}
use Rattle.std.specs.Str.{bytes_eq}
use Rattle.xt_names.specs.Allowed.{is_empty_text}
use Rattle.xt_names.specs.declared.names.Binding.{Binding}
use Rattle.xt_names.specs.declared.names.Name.{Name}
use Rattle.xt_tree.specs.declared.attributes.Attribute.{Attribute}
use Rattle.name_scopes.specs.Scopes.{binds_to, free_prefix}
use Rattle.xt_names.specs.ExprNames.{binding}

-- a start tag as far as it is settled
pub record Head : Type 0 where
  -- the scope, with what the element declares at its end
  pub scope : List Binding
  -- what the element declares, in the order made
  pub declared : List Binding
  -- the prefixes as they are written: that of the element, and then those of its attributes
  pub used : List (List ℕ)

abbrev pub with_prefix : Head → List ℕ → Head
with_prefix h prefix = record { scope = h.scope; declared = h.declared; used = h.used ++ prefix ∷ [] }

abbrev pub with_declared : Head → List ℕ → List ℕ → Head
with_declared h prefix uri = record { scope = h.scope ++ binding prefix uri ∷ []; declared = h.declared ++ binding prefix uri ∷ []; used = h.used ++ prefix ∷ [] }

abbrev pub empty_head : List Binding → Head
empty_head outer = record { scope = outer; declared = []; used = [] }

-- the prefix of the element is declared where the scope does not bind it to its uri
unfoldable pub with_element : Head → Name → Head
with_element h name =
    if binds_to h.scope name.prefix name.uri then with_prefix h name.prefix
    else with_declared h name.prefix name.uri

-- an attribute keeps a prefix that is bound to its uri; the empty prefix stands for no uri there
unfoldable pub keeps_prefix : Head → Name → Bool
keeps_prefix h name = not (is_empty_text name.prefix) && binds_to h.scope name.prefix name.uri

-- its own prefix may be declared where neither this element nor an earlier attribute writes it and it is not declared here
unfoldable pub may_declare : Head → List ℕ → Bool
may_declare h prefix =
    not (is_empty_text prefix) && not (list_any (λ p. bytes_eq p prefix) h.used)
    && not (list_any (λ b. bytes_eq b.prefix prefix) h.declared)

unfoldable pub with_attribute : Head → Name → Head
with_attribute h name =
    if is_empty_text name.uri then with_prefix h []
    else (if keeps_prefix h name then with_prefix h name.prefix
    else (if may_declare h name.prefix then with_declared h name.prefix name.uri
    else with_declared h (free_prefix h.scope) name.uri))

abbrev pub with_attributes : Head → List Attribute → Head
with_attributes h [] = h
with_attributes h (a ∷ rest) = with_attributes (with_attribute h a.name) rest

-- the start tag of an element
unfoldable pub head_of : List Binding → Name → List Attribute → Head
head_of outer name attributes = with_attributes (with_element (empty_head outer) name) attributes
