-- What a written start tag opens: the element with the prefixes that are written.
use Rattle.std.proofs.Common.{◌≡◌, ℕ, List, [], ◌∷◌, ◌++◌, true, false, Option, Some, None, refl, ◌∙◌, codes, append-nil}
use Rattle.std.specs.List.{list_any}
use Rattle.std.specs.Str.{bytes_eq}
use Rattle.xt_names.specs.Allowed.{is_empty_text}
use Rattle.xt_names.specs.declared.names.Binding.{Binding}
use Rattle.xt_names.specs.declared.names.Name.{Name}
use Rattle.xt_tree.specs.declared.attributes.Attribute.{Attribute}
use Rattle.xt_tree.specs.Sound.{names_differ}
use Rattle.doc_grammar.specs.RawNames.{RawAttribute}
use Rattle.doc_grammar.specs.Scopes.{declared_by, declarations, are_declarations, element_name, attribute_name, behind_named, named_attributes, opened}
use Rattle.doc_writer.specs.Readable.{renamed, renamed_attributes}
use Rattle.doc_laws.proofs.Names.{raw_name}
use Rattle.doc_laws.proofs.Tags.{declaring_name, raw_declarations, raw_attributes, tag_of}
use Rattle.xt_names.specs.Names.{same_name}

-- an attribute of this name, written with the prefix in the scope, declares nothing and has that name
pub record IsFit (scope : List Binding) (p : List ℕ) (name : Name) : Type 0 where
  pub prefix : bytes_eq p (codes "xmlns") ≡ false
  pub local : is_empty_text p ≡ true → bytes_eq name.local (codes "xmlns") ≡ false
  pub named : attribute_name scope (raw_name p name.local) ≡ Some (renamed p name)

abbrev pub AreFit : List Binding → List (List ℕ) → List Attribute → Type 0
AreFit scope ps [] = Unit {0}
AreFit scope [] (a ∷ rest) = ⊥
AreFit scope (p ∷ ps) (a ∷ rest) = IsFit scope p a.name × AreFit scope ps rest

declares : (p : List ℕ) → declared_by (declaring_name p) ≡ Some p
unfolding declared_by
declares [] = refl
declares (c ∷ cs) = refl

declares_none : (p local : List ℕ) → bytes_eq p (codes "xmlns") ≡ false → (is_empty_text p ≡ true → bytes_eq local (codes "xmlns") ≡ false) → declared_by (raw_name p local) ≡ None
unfolding declared_by is_empty_text
declares_none [] local e f = rw (f refl) refl
declares_none (c ∷ cs) local e f = rw e refl

none_declared : (scope : List Binding) (ps : List (List ℕ)) (attributes : List Attribute) → AreFit scope ps attributes → declarations (raw_attributes ps attributes) ≡ []
unfolding declarations
none_declared scope ps [] f = refl
none_declared scope [] (a ∷ rest) f = absurd f
none_declared scope (p ∷ ps) (a ∷ rest) f = rw (declares_none p a.name.local f.0.prefix f.0.local) (none_declared scope ps rest f.1)

all_declared : (ds : List Binding) (more : List RawAttribute) → declarations (raw_declarations ds ++ more) ≡ ds ++ declarations more
unfolding declarations
all_declared [] more = refl
all_declared (b ∷ ds) more = let ih = all_declared ds more in rw (declares b.prefix, ih) refl

nothing_before : (named : Option (List Attribute)) → behind_named [] named ≡ named
nothing_before None = refl
nothing_before (Some rest) = refl

none_named : (scope ds : List Binding) (more : List RawAttribute) → named_attributes scope (raw_declarations ds ++ more) ≡ named_attributes scope more
unfolding named_attributes
none_named scope [] more = refl
none_named scope (b ∷ ds) more = rw (declares b.prefix) (nothing_before (named_attributes scope (raw_declarations ds ++ more)) ∙ none_named scope ds more)

all_named : (scope : List Binding) (ps : List (List ℕ)) (attributes : List Attribute) → AreFit scope ps attributes → named_attributes scope (raw_attributes ps attributes) ≡ Some (renamed_attributes ps attributes)
unfolding named_attributes
all_named scope ps [] f = refl
all_named scope [] (a ∷ rest) f = absurd f
all_named scope (p ∷ ps) (a ∷ rest) f =
    let ih = all_named scope ps rest f.1 in rw (declares_none p a.name.local f.0.prefix f.0.local, f.0.named, ih) refl

-- names differ by uris and locals, whatever their prefixes
any_same : (scope : List Binding) (name : Name) (p : List ℕ) (ps : List (List ℕ)) (attributes : List Attribute) → AreFit scope ps attributes
    → list_any (λ b. same_name (renamed p name) b.name) (renamed_attributes ps attributes) ≡ list_any (λ b. same_name name b.name) attributes
any_same scope name p ps [] f = refl
any_same scope name p [] (a ∷ rest) f = absurd f
any_same scope name p (q ∷ ps) (a ∷ rest) f = let ih = any_same scope name p ps rest f.1 in rw ih refl

differ_same : (scope : List Binding) (ps : List (List ℕ)) (attributes : List Attribute) → AreFit scope ps attributes → names_differ (renamed_attributes ps attributes) ≡ names_differ attributes
differ_same scope ps [] f = refl
differ_same scope [] (a ∷ rest) f = absurd f
differ_same scope (p ∷ ps) (a ∷ rest) f = rw (any_same scope a.name p ps rest f.1, differ_same scope ps rest f.1) refl

pub opened_back : (scope ds : List Binding) (name : Name) (ps : List (List ℕ)) (attributes : List Attribute) → are_declarations ds ≡ true
    → element_name (scope ++ ds) (raw_name name.prefix name.local) ≡ Some name → AreFit (scope ++ ds) ps attributes → names_differ attributes ≡ true
    → opened scope (tag_of name ds ps attributes) ≡ Some (record { name = name; attributes = renamed_attributes ps attributes; scope = scope ++ ds })
unfolding opened
opened_back scope ds name ps attributes d n f differ =
    let raws = raw_attributes ps attributes in
    let own : declarations (raw_declarations ds ++ raws) ≡ ds = all_declared ds raws ∙ (rw (none_declared (scope ++ ds) ps attributes f) (append-nil ds)) in
    let named : named_attributes (scope ++ ds) (raw_declarations ds ++ raws) ≡ Some (renamed_attributes ps attributes) = none_named (scope ++ ds) ds raws ∙ all_named (scope ++ ds) ps attributes f in
    rw (own, d, n, named, differ_same (scope ++ ds) ps attributes f, differ) refl
