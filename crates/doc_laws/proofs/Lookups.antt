-- The scope of the writer and that of the reader: the first also binds the empty prefix to no uri.
use Rattle.std.proofs.Common.{◌≡◌, ℕ, List, [], ◌∷◌, ◌++◌, true, false, Option, Some, None, refl, codes}
use Rattle.std.proofs.lemmas.Option.{same_Some}
use Rattle.xt_names.specs.Allowed.{is_empty_text, xml_uri}
use Rattle.xt_names.specs.declared.names.Binding.{Binding}
use Rattle.xt_names.specs.declared.names.Name.{Name}
use Rattle.xt_tree.specs.declared.attributes.Attribute.{Attribute}
use Rattle.doc_grammar.specs.Scopes.{top_scope, or_no_uri, element_name, attribute_name}
use Rattle.doc_writer.specs.Scopes.{first_scope}
use Rattle.name_scopes.specs.Scopes.{bound_uri, uri_of_binding, or_earlier}
use Rattle.doc_laws.proofs.Names.{raw_name}
use Rattle.doc_laws.proofs.Openings.{IsFit, AreFit}
use Rattle.doc_laws.proofs.Suits.{Suits, AreSuited}
use Rattle.xt_names.specs.ExprNames.{binding}

-- with these declarations, outermost first
abbrev pub writing : List Binding → List Binding
writing ds = first_scope ++ ds

abbrev pub reading : List Binding → List Binding
reading ds = top_scope ++ ds

-- a prefix that is not empty has the same uri in both
full_bound : (ds : List Binding) (c : ℕ) (cs uri : List ℕ) → bound_uri (writing ds) (c ∷ cs) ≡ Some uri → bound_uri (reading ds) (c ∷ cs) ≡ Some uri
full_bound ds c cs uri e = go (bound_uri ds (c ∷ cs)) e
  where
    go : (o : Option (List ℕ)) → or_earlier (or_earlier o None) (uri_of_binding (binding (codes "xml") xml_uri) (c ∷ cs)) ≡ Some uri → or_earlier o (uri_of_binding (binding (codes "xml") xml_uri) (c ∷ cs)) ≡ Some uri
    go None d = d
    go (Some u) d = d

-- the default namespace
empty_bound : (ds : List Binding) (uri : List ℕ) → bound_uri (writing ds) [] ≡ Some uri → or_no_uri (bound_uri (reading ds) []) ≡ uri
empty_bound ds uri e = go (bound_uri ds []) e
  where
    go : (o : Option (List ℕ)) → or_earlier (or_earlier o (Some [])) None ≡ Some uri → or_no_uri (or_earlier o None) ≡ uri
    go None d = same_Some _ _ d
    go (Some u) d = same_Some _ _ d

element_bound : (ds : List Binding) (p uri local : List ℕ) → bound_uri (writing ds) p ≡ Some uri → element_name (reading ds) (raw_name p local) ≡ Some (record { prefix = p; uri = uri; local = local })
unfolding element_name
element_bound ds [] uri local e = rw (empty_bound ds uri e) refl
element_bound ds (c ∷ cs) uri local e = rw (full_bound ds c cs uri e) refl

pub element_named_back : (ds : List Binding) (name : Name) → bound_uri (writing ds) name.prefix ≡ Some name.uri → element_name (reading ds) (raw_name name.prefix name.local) ≡ Some name
element_named_back ds name e = element_bound ds name.prefix name.uri name.local e

attribute_bound : (ds : List Binding) (p uri local : List ℕ) → (is_empty_text p ≡ true → uri ≡ []) → (is_empty_text p ≡ false → bound_uri (writing ds) p ≡ Some uri)
    → attribute_name (reading ds) (raw_name p local) ≡ Some (record { prefix = p; uri = uri; local = local })
unfolding attribute_name is_empty_text
attribute_bound ds [] uri local none bound = rw (none refl) refl
attribute_bound ds (c ∷ cs) uri local none bound = rw (full_bound ds c cs uri (bound refl)) refl

fit : (ds : List Binding) (p : List ℕ) (name : Name) → Suits (writing ds) p name → IsFit (reading ds) p name
fit ds p name s = record { prefix = s.not_xmlns; local = s.local; named = attribute_bound ds p name.uri name.local s.none s.bound }

pub all_fit : (ds : List Binding) (ps : List (List ℕ)) (attributes : List Attribute) → AreSuited (writing ds) ps attributes → AreFit (reading ds) ps attributes
all_fit ds ps [] s = tt
all_fit ds [] (a ∷ rest) s = s
all_fit ds (p ∷ ps) (a ∷ rest) s = (fit ds p a.name s.0, all_fit ds ps rest s.1)
