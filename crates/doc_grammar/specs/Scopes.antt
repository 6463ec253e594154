-- Namespaces: which names a start tag gives in a scope (Namespaces in XML 1.0).
use Rattle.std.specs.Prelude.{ℕ, List, [], ◌∷◌, ◌++◌, Bool, true, not, ◌&&◌, ◌||◌, if◌then◌else◌, Option, Some, None, codes}
use Rattle.std.specs.List.{list_all, list_any}
use Rattle.std.specs.Str.{bytes_eq}
use Rattle.xt_names.specs.Allowed.{is_empty_text, keeps_xml, keeps_xmlns, xml_uri}
use Rattle.xt_names.specs.declared.names.Name.{Name}
use Rattle.xt_names.specs.declared.names.Binding.{Binding}
use Rattle.name_scopes.specs.Scopes.{bound_uri}
use Rattle.xt_tree.specs.declared.attributes.Attribute.{Attribute}
use Rattle.xt_tree.specs.Sound.{names_differ}
use Rattle.doc_grammar.specs.RawNames.{RawName, RawAttribute, RawTag}

-- the bindings that are in force, the innermost last; the prefix xml is always bound
abbrev pub top_scope : List Binding
top_scope = record { prefix = codes "xml"; uri = xml_uri } ∷ []

abbrev pub declared_prefix : Option (List ℕ) → List ℕ → Option (List ℕ)
declared_prefix None local = if bytes_eq local (codes "xmlns") then Some [] else None
declared_prefix (Some prefix) local = if bytes_eq prefix (codes "xmlns") then Some local else None

-- the prefix that an attribute of this name declares; the default namespace has the empty prefix
unfoldable pub declared_by : RawName → Option (List ℕ)
declared_by name = declared_prefix name.prefix name.local

abbrev pub with_declaration : Option (List ℕ) → List ℕ → List Binding → List Binding
with_declaration None uri rest = rest
with_declaration (Some prefix) uri rest = record { prefix = prefix; uri = uri } ∷ rest

-- the namespace declarations among the attributes
unfoldable pub declarations : List RawAttribute → List Binding
declarations [] = []
declarations (a ∷ more) = with_declaration (declared_by a.name) a.value (declarations more)

-- a prefix has a uri, xml and its uri go together, and xmlns and its uri are not bound
unfoldable pub is_binding : Binding → Bool
is_binding b =
    (is_empty_text b.prefix || not (is_empty_text b.uri)) && keeps_xml b.prefix b.uri && keeps_xmlns b.prefix b.uri

-- no prefix is declared twice
unfoldable pub prefixes_differ : List Binding → Bool
prefixes_differ [] = true
prefixes_differ (b ∷ bs) = not (list_any (λ c. bytes_eq b.prefix c.prefix) bs) && prefixes_differ bs

-- the prefix of a binding, as the name of an attribute
unfoldable pub prefix_name : Binding → Attribute
prefix_name b = record { name = record { prefix = []; uri = []; local = b.prefix }; value = [] }

unfoldable pub are_declarations : List Binding → Bool
are_declarations bs = list_all is_binding bs && prefixes_differ bs

abbrev pub or_no_uri : Option (List ℕ) → List ℕ
or_no_uri None = []
or_no_uri (Some uri) = uri

abbrev pub in_namespace : List ℕ → List ℕ → Option (List ℕ) → Option Name
in_namespace prefix local None = None
in_namespace prefix local (Some uri) = Some (record { prefix = prefix; uri = uri; local = local })

abbrev pub element_named : List Binding → Option (List ℕ) → List ℕ → Option Name
element_named scope None local = in_namespace [] local (Some (or_no_uri (bound_uri scope [])))
element_named scope (Some prefix) local = in_namespace prefix local (bound_uri scope prefix)

-- the name of an element: without a prefix it is in the default namespace
unfoldable pub element_name : List Binding → RawName → Option Name
element_name scope name = element_named scope name.prefix name.local

abbrev pub attribute_named : List Binding → Option (List ℕ) → List ℕ → Option Name
attribute_named scope None local = in_namespace [] local (Some [])
attribute_named scope (Some prefix) local = in_namespace prefix local (bound_uri scope prefix)

-- the name of an attribute: without a prefix it is in no namespace
unfoldable pub attribute_name : List Binding → RawName → Option Name
attribute_name scope name = attribute_named scope name.prefix name.local

abbrev pub with_value : List ℕ → Option Name → Option (List Attribute)
with_value value None = None
with_value value (Some name) = Some (record { name = name; value = value } ∷ [])

abbrev pub unless_declared : Option (List ℕ) → Option (List Attribute) → Option (List Attribute)
unless_declared None named = named
unless_declared (Some prefix) named = Some []

-- one attribute with its name; none where it is a declaration
abbrev pub one_named : List Binding → RawAttribute → Option (List Attribute)
one_named scope a = unless_declared (declared_by a.name) (with_value a.value (attribute_name scope a.name))

-- attributes that are named, and those after them
abbrev pub behind_named : List Attribute → Option (List Attribute) → Option (List Attribute)
behind_named front None = None
behind_named front (Some rest) = Some (front ++ rest)

abbrev pub both_named : Option (List Attribute) → Option (List Attribute) → Option (List Attribute)
both_named None rest = None
both_named (Some front) rest = behind_named front rest

-- the attributes that are no declarations, with their names
unfoldable pub named_attributes : List Binding → List RawAttribute → Option (List Attribute)
named_attributes scope [] = Some []
named_attributes scope (a ∷ more) = both_named (one_named scope a) (named_attributes scope more)

-- an element that is opened: its name, its attributes, and the bindings that are in force in it
pub record Opened : Type 0 where
  pub name : Name
  pub attributes : List Attribute
  pub scope : List Binding

abbrev pub opened_with : List Binding → Option Name → Option (List Attribute) → Option Opened
opened_with scope None attributes = None
opened_with scope (Some name) None = None
opened_with scope (Some name) (Some attributes) =
    if names_differ attributes then Some (record { name = name; attributes = attributes; scope = scope }) else None

-- What a start tag opens; None where it breaks a rule on names: each prefix is declared, no two attributes have the
-- same name, no prefix is declared twice, and only allowed prefixes and uris are bound.
unfoldable pub opened : List Binding → RawTag → Option Opened
opened scope t =
    let inner = scope ++ declarations t.attributes in
    if are_declarations (declarations t.attributes)
    then opened_with inner (element_name inner t.name) (named_attributes inner t.attributes)
    else None
