-- What a start tag opens has sound names and attributes.
use Rattle.std.proofs.Common.{◌≡◌, ℕ, ◌≤◌, List, [], ◌∷◌, ◌++◌, length, refl, arith, sym, ◌∙◌, subst, Bool, true, false, not, cond, ◌&&◌, ◌||◌, Option, Some, None, codes, length-append}
use Rattle.std.specs.List.{list_all}
use Rattle.std.specs.Str.{bytes_eq}
use Rattle.std.proofs.lemmas.Slice.Eq.{bytes_eq-Decides}
use Rattle.std.proofs.lemmas.List.Folds.{list_all-append}
use Rattle.std.proofs.lemmas.Option.{none-some, same_Some}
use Rattle.xt_names.specs.Allowed.{is_empty_text, is_prefix_of, keeps_xml, keeps_xmlns, is_allowed_name}
use Rattle.xt_names.specs.Classes.{is_ncname_text, begins_name, is_xml_text, is_in_ranges}
use Rattle.xt_names.specs.declared.names.Name.{Name}
use Rattle.xt_names.specs.declared.names.Binding.{Binding}
use Rattle.xt_tree.specs.declared.attributes.Attribute.{Attribute}
use Rattle.xt_tree.specs.Sound.{is_sound_name, is_named_xmlns, is_sound_attribute, names_differ, are_sound_attributes}
use Rattle.name_scopes.specs.Scopes.{bound_uri, uri_of_binding, or_earlier}
use Rattle.doc_grammar.specs.RawNames.{RawName, RawAttribute, RawTag}
use Rattle.doc_grammar.specs.Scopes.{top_scope, declared_prefix, declared_by, declarations, is_binding, are_declarations, or_no_uri, in_namespace, element_named, element_name, attribute_named, attribute_name, with_value, unless_declared, with_declaration, one_named, both_named, named_attributes, Opened, opened_with, opened}
use Rattle.doc_grammar.specs.Document.{QName, Valued, Attributes, Spaced}
use Rattle.doc_grammar.specs.Document as doc
use Rattle.doc_grammar.proofs.CharacterFacts.{both}
use Rattle.doc_grammar.proofs.SoundTexts.{ncname_text, xml_push, value_char, reference_char}
use Rattle.xt_names.specs.ExprNames.{binding}
use Rattle.xt_names.proofs.BoolLemmas.{not_true}
use Rattle.xt_names.proofs.ClassLemmas.{no_text}

-- names as they are written

abbrev pub IsPrefix : Option (List ℕ) → Type 0
IsPrefix None = Unit {0}
IsPrefix (Some prefix) = is_ncname_text prefix ≡ true

abbrev pub IsRaw : RawName → Type 0
IsRaw name = (is_ncname_text name.local ≡ true) × IsPrefix name.prefix

abbrev pub AreRaw : List RawAttribute → Type 0
AreRaw [] = Unit {0}
AreRaw (a ∷ more) = IsRaw a.name × (is_xml_text a.value ≡ true) × AreRaw more

pub qname_raw : {ts rest : List ℕ} {name : RawName} → QName ts name rest → IsRaw name
qname_raw (doc.plain n e) = (ncname_text n, tt)
qname_raw (doc.prefixed n l) = (ncname_text l, ncname_text n)

value_chars : {quote : ℕ} {read ts value rest : List ℕ} → Valued quote read ts value rest → is_xml_text read ≡ true → is_xml_text value ≡ true
value_chars {quote = quote} {read = read} (doc.more {c = c} p v) a = value_chars v (xml_push read _ a (value_char quote c p))
value_chars {read = read} (doc.refers r v) a = value_chars v (xml_push read _ a (reference_char r))
value_chars doc.whole a = a

raw_push : (attributes : List RawAttribute) (name : RawName) (value : List ℕ) → AreRaw attributes → IsRaw name → is_xml_text value ≡ true → AreRaw (attributes ++ record { name = name; value = value } ∷ [])
raw_push [] name value all r v = (r, v, tt)
raw_push (a ∷ more) name value all r v = (all.0, all.1, raw_push more name value all.2 r v)

mutual
  pub attributes_raw : {t whole : RawTag} {ts rest : List ℕ} → Attributes t ts whole rest → IsRaw t.name → AreRaw t.attributes → IsRaw whole.name × AreRaw whole.attributes
  attributes_raw (doc.none e) n all = (n, all)
  attributes_raw (doc.space s a) n all = spaced_raw a n all

  spaced_raw : {t whole : RawTag} {ts rest : List ℕ} → Spaced t ts whole rest → IsRaw t.name → AreRaw t.attributes → IsRaw whole.name × AreRaw whole.attributes
  spaced_raw (doc.no_more e) n all = (n, all)
  spaced_raw (doc.again s a) n all = spaced_raw a n all
  spaced_raw {t = t} (doc.attribute {name = name} {value = value} d e q v a) n all = attributes_raw a n (raw_push t.attributes name value all (qname_raw d) (value_chars v no_text))

-- bindings

-- a binding whose uri has characters of XML alone
abbrev pub is_held : Binding → Bool
is_held b = is_binding b && is_xml_text b.uri

abbrev pub AreBindings : List Binding → Type 0
AreBindings scope = list_all is_held scope ≡ true

-- what is bound in such a scope is a binding
bound_binding : (scope : List Binding) (prefix uri : List ℕ) → AreBindings scope → bound_uri scope prefix ≡ Some uri → is_held (binding prefix uri) ≡ true
bound_binding [] prefix uri all e = absurd (none-some _ e)
bound_binding (b ∷ bs) prefix uri all e = go (bound_uri bs prefix) refl e (λ d. bound_binding bs prefix uri (both all).1 d)
  where
    here : (q : Bool) → bytes_eq b.prefix prefix ≡ q → cond q (Some b.uri) None ≡ Some uri → is_held (binding prefix uri) ≡ true
    here true q d = rw (sym ((bytes_eq-Decides b.prefix prefix).0 q), sym (same_Some _ _ d)) (both all).0
    here false q d = absurd (none-some _ d)

    go : (o : Option (List ℕ)) → bound_uri bs prefix ≡ o → or_earlier o (uri_of_binding b prefix) ≡ Some uri → (bound_uri bs prefix ≡ Some uri → is_held (binding prefix uri) ≡ true) → is_held (binding prefix uri) ≡ true
    go (Some u) f d again = again (f ∙ d)
    go None f d again = here (bytes_eq b.prefix prefix) refl d

pub top_bindings : AreBindings top_scope
unfolding is_binding keeps_xml keeps_xmlns is_empty_text is_xml_text is_in_ranges
top_bindings = refl

-- the parts of a binding
record Keeps (prefix uri : List ℕ) : Type 0 where
  uri_with : (is_empty_text prefix || not (is_empty_text uri)) ≡ true
  xml : keeps_xml prefix uri ≡ true
  xmlns : keeps_xmlns prefix uri ≡ true
  characters : is_xml_text uri ≡ true

keeps : (prefix uri : List ℕ) → is_held (binding prefix uri) ≡ true → Keeps prefix uri
unfolding is_binding
keeps prefix uri b = let h = both b in let x = both h.0 in let y = both x.0 in record { uri_with = y.0; xml = y.1; xmlns = x.1; characters = h.1 }

-- names

some_prefix : (prefix : List ℕ) → is_ncname_text prefix ≡ true → is_empty_text prefix ≡ false
unfolding is_ncname_text begins_name is_empty_text
some_prefix [] n = absurd (cc)
some_prefix (c ∷ cs) n = refl

or_right : {a b : Bool} → a ≡ false → (a || b) ≡ true → b ≡ true
or_right {a = true} f e = absurd (cc)
or_right {a = false} f e = e

plain_sound : (uri local : List ℕ) → is_ncname_text local ≡ true → keeps_xml [] uri ≡ true → keeps_xmlns [] uri ≡ true → is_xml_text uri ≡ true → is_sound_name (record { prefix = []; uri = uri; local = local }) ≡ true
unfolding is_sound_name is_allowed_name is_prefix_of is_empty_text
plain_sound uri local n x y c = rw (n, x, y, c) refl

prefixed_sound : (prefix uri local : List ℕ) → is_ncname_text local ≡ true → is_ncname_text prefix ≡ true → Keeps prefix uri → is_sound_name (record { prefix = prefix; uri = uri; local = local }) ≡ true
unfolding is_sound_name is_allowed_name is_prefix_of
prefixed_sound prefix uri local n p k =
    rw (n, some_prefix prefix p, p, or_right (some_prefix prefix p) k.uri_with, k.xml, k.xmlns, k.characters) refl

no_namespace : (local : List ℕ) → is_ncname_text local ≡ true → is_sound_name (record { prefix = []; uri = []; local = local }) ≡ true
unfolding keeps_xml keeps_xmlns
no_namespace local n = plain_sound [] local n refl refl no_text

name_sound : (prefix local : List ℕ) (scope : List Binding) (name : Name) → AreBindings scope → is_ncname_text local ≡ true → is_ncname_text prefix ≡ true → in_namespace prefix local (bound_uri scope prefix) ≡ Some name → (is_sound_name name ≡ true) × (is_empty_text name.uri ≡ false)
name_sound prefix local scope name all n p e = go (bound_uri scope prefix) refl e
  where
    go : (o : Option (List ℕ)) → bound_uri scope prefix ≡ o → in_namespace prefix local o ≡ Some name → (is_sound_name name ≡ true) × (is_empty_text name.uri ≡ false)
    go None f d = absurd (none-some _ d)
    go (Some uri) f d =
        let k = keeps prefix uri (bound_binding scope prefix uri all f) in
        let P : Name → Type 0 = λ x. (is_sound_name x ≡ true) × (is_empty_text x.uri ≡ false) in
        subst P (same_Some _ _ d) (prefixed_sound prefix uri local n p k, not_true (or_right (some_prefix prefix p) k.uri_with))

-- the name of an element
pub element_sound : (scope : List Binding) (raw : RawName) (name : Name) → AreBindings scope → IsRaw raw → element_name scope raw ≡ Some name → is_sound_name name ≡ true
unfolding element_name
element_sound scope raw name all r e = go raw.prefix r.1 e
  where
    go : (p : Option (List ℕ)) → IsPrefix p → element_named scope p raw.local ≡ Some name → is_sound_name name ≡ true
    go None q d = here (bound_uri scope []) refl d
      where
        here : (o : Option (List ℕ)) → bound_uri scope [] ≡ o → Some (record { prefix = []; uri = or_no_uri o; local = raw.local }) ≡ Some name → is_sound_name name ≡ true
        here None f d = rw (sym (same_Some _ _ d)) (no_namespace raw.local r.0)
        here (Some uri) f d = let k = keeps [] uri (bound_binding scope [] uri all f) in rw (sym (same_Some _ _ d)) (plain_sound uri raw.local r.0 k.xml k.xmlns k.characters)
    go (Some prefix) q d = (name_sound prefix raw.local scope name all r.0 q d).0

-- attributes

abbrev pub AreSound : List Attribute → Type 0
AreSound attributes = list_all (λ a. is_sound_attribute a.name a.value) attributes ≡ true

plain_attribute : (local value : List ℕ) → is_ncname_text local ≡ true → is_xml_text value ≡ true → bytes_eq local (codes "xmlns") ≡ false → is_sound_attribute (record { prefix = []; uri = []; local = local }) value ≡ true
unfolding is_sound_attribute is_named_xmlns is_empty_text
plain_attribute local value n v x = rw (no_namespace local n, v, x) refl

bound_attribute : (name : Name) (value : List ℕ) → is_sound_name name ≡ true → is_empty_text name.uri ≡ false → is_xml_text value ≡ true → is_sound_attribute name value ≡ true
unfolding is_sound_attribute is_named_xmlns
bound_attribute name value n u v = rw (n, u, v) refl

-- one attribute, or none where it is a declaration
one_sound : (scope : List Binding) (a : RawAttribute) (named : List Attribute) → AreBindings scope → IsRaw a.name → is_xml_text a.value ≡ true → one_named scope a ≡ Some named → AreSound named × (length named ≤ 1)
unfolding declared_by attribute_name
one_sound scope a named all r v e = go a.name.prefix r.1 e
  where
    none : Some [] ≡ Some named → AreSound named × (length named ≤ 1)
    none d = let P : List Attribute → Type 0 = λ x. AreSound x × (length x ≤ 1) in subst P (same_Some _ _ d) (refl, omega arith)

    some : (name : Name) → is_sound_attribute name a.value ≡ true → Some (record { name = name; value = a.value } ∷ []) ≡ Some named → AreSound named × (length named ≤ 1)
    some name s d = let P : List Attribute → Type 0 = λ x. AreSound x × (length x ≤ 1) in subst P (same_Some _ _ d) (rw s refl, omega arith)

    plain : (q : Bool) → bytes_eq a.name.local (codes "xmlns") ≡ q → unless_declared (cond q (Some []) None) (with_value a.value (attribute_named scope None a.name.local)) ≡ Some named → AreSound named × (length named ≤ 1)
    plain true q d = none d
    plain false q d = some _ (plain_attribute a.name.local a.value r.0 v q) d

    bound : (prefix : List ℕ) → is_ncname_text prefix ≡ true → (o : Option Name) → in_namespace prefix a.name.local (bound_uri scope prefix) ≡ o → with_value a.value o ≡ Some named → AreSound named × (length named ≤ 1)
    bound prefix p None f d = absurd (none-some _ d)
    bound prefix p (Some name) f d = let s = name_sound prefix a.name.local scope name all r.0 p f in some name (bound_attribute name a.value s.0 s.1 v) d

    prefixed : (prefix : List ℕ) → is_ncname_text prefix ≡ true → (q : Bool) → unless_declared (cond q (Some a.name.local) None) (with_value a.value (attribute_named scope (Some prefix) a.name.local)) ≡ Some named → AreSound named × (length named ≤ 1)
    prefixed prefix p true d = none d
    prefixed prefix p false d = bound prefix p (in_namespace prefix a.name.local (bound_uri scope prefix)) refl d

    go : (p : Option (List ℕ)) → IsPrefix p → unless_declared (declared_prefix p a.name.local) (with_value a.value (attribute_named scope p a.name.local)) ≡ Some named → AreSound named × (length named ≤ 1)
    go None q d = plain (bytes_eq a.name.local (codes "xmlns")) refl d
    go (Some prefix) q d = prefixed prefix q (bytes_eq prefix (codes "xmlns")) d

pub attributes_sound : (scope : List Binding) (raw : List RawAttribute) (named : List Attribute) → AreBindings scope → AreRaw raw → named_attributes scope raw ≡ Some named → AreSound named × (length named ≤ length raw)
unfolding named_attributes
attributes_sound scope [] named all r e = let P : List Attribute → Type 0 = λ x. AreSound x × (length x ≤ 0) in subst P (same_Some _ _ e) (refl, omega arith)
attributes_sound scope (a ∷ more) named all r e = go (one_named scope a) refl (named_attributes scope more) refl e (λ x d. attributes_sound scope more x all r.2 d)
  where
    go : (o : Option (List Attribute)) → one_named scope a ≡ o → (m : Option (List Attribute)) → named_attributes scope more ≡ m → both_named o m ≡ Some named → ((x : List Attribute) → named_attributes scope more ≡ Some x → AreSound x × (length x ≤ length more)) → AreSound named × (length named ≤ length (a ∷ more))
    go None f m g d again = absurd (none-some _ d)
    go (Some front) f None g d again = absurd (none-some _ d)
    go (Some front) f (Some rest) g d again =
        let x = one_sound scope a front all r.0 r.1 f in
        let y = again rest g in
        let P : List Attribute → Type 0 = λ z. AreSound z × (length z ≤ length (a ∷ more)) in
        let size = length-append front rest in
        let low = x.1 in
        let most = y.1 in
        subst P (same_Some _ _ d) (rw (list_all-append (λ (b : Attribute). is_sound_attribute b.name b.value) front rest, x.0, y.0) refl, omega arith)

-- what a start tag opens

pub record IsOpened (t : RawTag) (o : Opened) : Type 0 where
  pub name : is_sound_name o.name ≡ true
  pub attributes : are_sound_attributes o.attributes ≡ true
  pub count : length o.attributes ≤ length t.attributes
  pub bindings : AreBindings o.scope

-- the uris of declarations are values of attributes
declarations_held : (raw : List RawAttribute) → AreRaw raw → list_all is_binding (declarations raw) ≡ true → AreBindings (declarations raw)
unfolding declarations
declarations_held [] all d = refl
declarations_held (a ∷ more) all d = go (declared_by a.name) d (λ e. declarations_held more all.2 e)
  where
    go : (p : Option (List ℕ)) → list_all is_binding (with_declaration p a.value (declarations more)) ≡ true → (list_all is_binding (declarations more) ≡ true → AreBindings (declarations more)) → AreBindings (with_declaration p a.value (declarations more))
    go None e again = again e
    go (Some prefix) e again =
        let x = both {a = is_binding (binding prefix a.value)} {b = list_all is_binding (declarations more)} e in
        let value : is_xml_text a.value ≡ true = all.1 in
        let rest : list_all is_held (declarations more) ≡ true = again x.1 in
        rw (x.0, value, rest) refl

inner_bindings : (scope : List Binding) (t : RawTag) → AreBindings scope → AreRaw t.attributes → are_declarations (declarations t.attributes) ≡ true → AreBindings (scope ++ declarations t.attributes)
unfolding are_declarations
inner_bindings scope t all raw d =
    let more = declarations_held t.attributes raw (both d).0 in
    rw (list_all-append is_held scope (declarations t.attributes), all, more) refl

sound_all : (attributes : List Attribute) → AreSound attributes → names_differ attributes ≡ true → are_sound_attributes attributes ≡ true
unfolding are_sound_attributes
sound_all attributes a d = rw (a, d) refl

pub opened_sound : (scope : List Binding) (t : RawTag) (o : Opened) → AreBindings scope → IsRaw t.name → AreRaw t.attributes → opened scope t ≡ Some o → IsOpened t o
unfolding opened
opened_sound scope t o all n raw e = go (are_declarations (declarations t.attributes)) refl e
  where
    whole : AreBindings (scope ++ declarations t.attributes) → (name : Name) → element_name (scope ++ declarations t.attributes) t.name ≡ Some name → (attributes : List Attribute) → named_attributes (scope ++ declarations t.attributes) t.attributes ≡ Some attributes → (q : Bool) → names_differ attributes ≡ q → cond q (Some (record { name = name; attributes = attributes; scope = scope ++ declarations t.attributes })) None ≡ Some o → IsOpened t o
    whole inner name f attributes g true q d =
        let a = attributes_sound (scope ++ declarations t.attributes) t.attributes attributes inner raw g in
        let P : Opened → Type 0 = λ x. IsOpened t x in
        subst P (same_Some _ _ d) (record { name = element_sound (scope ++ declarations t.attributes) t.name name inner n f; attributes = sound_all attributes a.0 q; count = a.1; bindings = inner })
    whole inner name f attributes g false q d = absurd (none-some _ d)

    parts : AreBindings (scope ++ declarations t.attributes) → (name : Option Name) → element_name (scope ++ declarations t.attributes) t.name ≡ name → (attributes : Option (List Attribute)) → named_attributes (scope ++ declarations t.attributes) t.attributes ≡ attributes → opened_with (scope ++ declarations t.attributes) name attributes ≡ Some o → IsOpened t o
    parts inner None f attributes g d = absurd (none-some _ d)
    parts inner (Some name) f None g d = absurd (none-some _ d)
    parts inner (Some name) f (Some attributes) g d = whole inner name f attributes g (names_differ attributes) refl d

    go : (q : Bool) → are_declarations (declarations t.attributes) ≡ q → cond q (opened_with (scope ++ declarations t.attributes) (element_name (scope ++ declarations t.attributes) t.name) (named_attributes (scope ++ declarations t.attributes) t.attributes)) None ≡ Some o → IsOpened t o
    go true q d = parts (inner_bindings scope t all raw q) (element_name (scope ++ declarations t.attributes) t.name) refl (named_attributes (scope ++ declarations t.attributes) t.attributes) refl d
    go false q d = absurd (none-some _ d)
