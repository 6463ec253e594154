-- What a start tag declares binds its prefixes to their uris.
use Rattle.std.proofs.Common.{◌≡◌, ℕ, List, [], ◌∷◌, ◌++◌, Bool, true, false, not, cond, ◌&&◌, ◌||◌, Option, Some, None, refl, sym, ap, ◌∙◌, codes, append_assoc, append-nil, ⊎_elim}
use Rattle.std.specs.List.{list_any, list_all}
use Rattle.std.specs.Option.{is_some}
use Rattle.std.specs.Str.{bytes_eq}
use Rattle.std.proofs.lemmas.Bool.{and_parts, or_parts, or_cases, or_right, false_from_ne_true, not-true}
use Rattle.std.proofs.lemmas.List.Folds.{list_all-append, list_any-append}
use Rattle.std.proofs.lemmas.Slice.Eq.{bytes_eq-Decides}
use Rattle.xt_names.specs.Allowed.{is_empty_text, is_prefix_of, keeps_xml, keeps_xmlns, is_allowed_name, same_truth, xml_uri, xmlns_uri}
use Rattle.xt_names.specs.Classes.{is_xml_text, is_ncname_text}
use Rattle.xt_names.specs.declared.names.Binding.{Binding}
use Rattle.xt_names.specs.declared.names.Name.{Name}
use Rattle.xt_tree.specs.Sound.{is_sound_name}
use Rattle.doc_grammar.specs.Scopes.{is_binding, prefixes_differ}
use Rattle.doc_writer.specs.Heads.{Head, with_prefix, with_declared, empty_head}
use Rattle.name_scopes.specs.Scopes.{bound_uri, or_earlier, is_uri, binds_to, binds}
use Rattle.name_scopes.proofs.ScopeLemmas.{bound_uri_push}
use Rattle.doc_laws.proofs.Names.{is_prefix}
use Rattle.doc_laws.proofs.Tags.{is_spelled_binding}
use Rattle.xt_names.proofs.BoolLemmas.{no}
use Rattle.xt_names.specs.ExprNames.{binding}

-- texts that are the same

pub same_text : (a b : List ℕ) → bytes_eq a b ≡ true → a ≡ b
same_text a b e = (bytes_eq-Decides a b).0 e

pub text_same : (a : List ℕ) → bytes_eq a a ≡ true
text_same a = (bytes_eq-Decides a a).1 refl

abbrev pub is_used : List (List ℕ) → List ℕ → Bool
is_used used p = list_any (λ q. bytes_eq q p) used

abbrev pub is_declared : List Binding → List ℕ → Bool
is_declared ds p = list_any (λ b. bytes_eq b.prefix p) ds

-- bindings

pub bound_from : (scope : List Binding) (p uri : List ℕ) → binds_to scope p uri ≡ true → bound_uri scope p ≡ Some uri
unfolding binds_to
bound_from scope p uri e = go (bound_uri scope p) e
  where
    go : (o : Option (List ℕ)) → is_uri o uri ≡ true → o ≡ Some uri
    go None d = absurd (cc)
    go (Some u) d = ap Some (same_text u uri d)

pub bound_binds : (scope : List Binding) (p uri : List ℕ) → bound_uri scope p ≡ Some uri → binds scope p ≡ true
unfolding binds
bound_binds scope p uri e = rw e refl

-- with one more binding

pub pushed_same : (scope : List Binding) (p uri : List ℕ) → bound_uri (scope ++ binding p uri ∷ []) p ≡ Some uri
pushed_same scope p uri = rw (bound_uri_push scope (binding p uri) p, text_same p) refl

pub pushed_other : (scope : List Binding) (p uri q : List ℕ) → bytes_eq p q ≡ false → bound_uri (scope ++ binding p uri ∷ []) q ≡ bound_uri scope q
pushed_other scope p uri q e = rw (bound_uri_push scope (binding p uri) q, e) refl

binds_more : (scope : List Binding) (p uri q : List ℕ) → binds scope q ≡ true → binds (scope ++ binding p uri ∷ []) q ≡ true
unfolding binds
binds_more scope p uri q e = rw (bound_uri_push scope (binding p uri) q) (go (bytes_eq p q))
  where
    go : (b : Bool) → is_some (or_earlier (cond b (Some uri) None) (bound_uri scope q)) ≡ true
    go true = refl
    go false = e

-- names that are allowed

pub record IsAllowed (name : Name) : Type 0 where
  pub local : is_ncname_text name.local ≡ true
  pub prefix : is_prefix_of name.prefix name.uri ≡ true
  pub xml : keeps_xml name.prefix name.uri ≡ true
  pub xmlns : keeps_xmlns name.prefix name.uri ≡ true

pub allowed : (name : Name) → is_sound_name name ≡ true → IsAllowed name
unfolding is_sound_name is_allowed_name
allowed name s =
    let u = and_parts (((is_ncname_text name.local && is_prefix_of name.prefix name.uri) && keeps_xml name.prefix name.uri) && keeps_xmlns name.prefix name.uri) (is_xml_text name.uri) s in
    let a = and_parts ((is_ncname_text name.local && is_prefix_of name.prefix name.uri) && keeps_xml name.prefix name.uri) (keeps_xmlns name.prefix name.uri) u.0 in
    let b = and_parts (is_ncname_text name.local && is_prefix_of name.prefix name.uri) (keeps_xml name.prefix name.uri) a.0 in
    let d = and_parts (is_ncname_text name.local) (is_prefix_of name.prefix name.uri) b.0 in
    record { local = d.0; prefix = d.1; xml = b.1; xmlns = a.1 }

pub local_name : (name : Name) → is_sound_name name ≡ true → is_ncname_text name.local ≡ true
local_name name s = (allowed name s).local

pub prefix_of_name : (p uri : List ℕ) → is_prefix_of p uri ≡ true → is_prefix p ≡ true
unfolding is_prefix_of is_empty_text
prefix_of_name [] uri e = refl
prefix_of_name (c ∷ cs) uri e = (and_parts (is_ncname_text (c ∷ cs)) (not (is_empty_text uri)) e).0

pub element_prefix : (name : Name) → is_sound_name name ≡ true → is_prefix name.prefix ≡ true
element_prefix name s = prefix_of_name name.prefix name.uri (allowed name s).prefix

uri_with_prefix : (p uri : List ℕ) → is_prefix_of p uri ≡ true → (is_empty_text p || not (is_empty_text uri)) ≡ true
unfolding is_prefix_of is_empty_text
uri_with_prefix [] uri e = refl
uri_with_prefix (c ∷ cs) uri e = (and_parts (is_ncname_text (c ∷ cs)) (not (is_empty_text uri)) e).1

pub name_binding : (name : Name) → IsAllowed name → is_binding (binding name.prefix name.uri) ≡ true
unfolding is_binding
name_binding name a = rw (uri_with_prefix name.prefix name.uri a.prefix, a.xml, a.xmlns) refl

pub not_xmlns : (name : Name) → IsAllowed name → bytes_eq name.prefix (codes "xmlns") ≡ false
unfolding keeps_xmlns
not_xmlns name a = not-true _ (and_parts (not (bytes_eq name.prefix (codes "xmlns"))) (not (bytes_eq name.uri xmlns_uri)) a.xmlns).0

-- A start tag as far as it is settled, in a scope: its prefixes are bound, and its declarations may be written.
pub record Settled (outer : List Binding) (h : Head) : Type 0 where
  pub scope : h.scope ≡ outer ++ h.declared
  pub xml : bound_uri h.scope (codes "xml") ≡ Some xml_uri
  pub used : (p : List ℕ) → is_empty_text p ≡ false → is_used h.used p ≡ true → binds h.scope p ≡ true
  pub bindings : list_all is_binding h.declared ≡ true
  pub differ : prefixes_differ h.declared ≡ true
  pub spelled : list_all is_spelled_binding h.declared ≡ true

pub settled_start : (outer : List Binding) → bound_uri outer (codes "xml") ≡ Some xml_uri → Settled outer (empty_head outer)
unfolding prefixes_differ
settled_start outer x = record { scope = sym (append-nil outer); xml = x; used = λ p e u. absurd (cc); bindings = refl; differ = refl; spelled = refl }

-- one prefix more is used
used_cases : (used : List (List ℕ)) (p q : List ℕ) → is_used (used ++ p ∷ []) q ≡ true → (is_used used q || bytes_eq p q) ≡ true
used_cases used p q e = go (is_used used q) (bytes_eq p q) (sym (list_any-append (λ x. bytes_eq x q) used (p ∷ [])) ∙ e)
  where
    go : (a b : Bool) → (a || (b || false)) ≡ true → (a || b) ≡ true
    go true b d = refl
    go false true d = refl
    go false false d = d

pub used_front : (used more : List (List ℕ)) (q : List ℕ) → is_used used q ≡ true → is_used (used ++ more) q ≡ true
used_front used more q e = rw (list_any-append (λ x. bytes_eq x q) used more, e) refl

pub used_last : (used : List (List ℕ)) (q : List ℕ) → is_used (used ++ q ∷ []) q ≡ true
used_last used q = rw (list_any-append (λ x. bytes_eq x q) used (q ∷ []), text_same q) (or_right (is_used used q) true refl)

pub settled_used : (outer : List Binding) (h : Head) (p : List ℕ) → Settled outer h → (is_empty_text p ≡ false → binds h.scope p ≡ true) → Settled outer (with_prefix h p)
settled_used outer h p s b = record {
  scope = s.scope;
  xml = s.xml;
  bindings = s.bindings;
  differ = s.differ;
  spelled = s.spelled;
  used = λ q e u. ⊎_elim (s.used q e) (λ d. go q e (same_text p q d)) (or_cases (is_used h.used q) (bytes_eq p q) (used_cases h.used p q u));
}
  where
    go : (q : List ℕ) → is_empty_text q ≡ false → p ≡ q → binds h.scope q ≡ true
    go q e d = rw (sym d) (b (rw d e))

-- one declaration more

differ_push : (ds : List Binding) (b : Binding) → prefixes_differ ds ≡ true → is_declared ds b.prefix ≡ false → prefixes_differ (ds ++ b ∷ []) ≡ true
unfolding prefixes_differ
differ_push [] b d n = refl
differ_push (x ∷ ds) b d n =
    let parts = and_parts (not (list_any (λ (c : Binding). bytes_eq x.prefix c.prefix) ds)) (prefixes_differ ds) d in
    let apart = or_parts (bytes_eq x.prefix b.prefix) (is_declared ds b.prefix) n in
    let ih = differ_push ds b parts.1 apart.1 in
    let none : list_any (λ (c : Binding). bytes_eq x.prefix c.prefix) ds ≡ false = not-true (list_any (λ (c : Binding). bytes_eq x.prefix c.prefix) ds) parts.0 in
    rw (list_any-append (λ (c : Binding). bytes_eq x.prefix c.prefix) ds (b ∷ []), none, apart.0, ih) refl

keeps_xml_bound : (p uri : List ℕ) → keeps_xml p uri ≡ true → bytes_eq p (codes "xml") ≡ true → uri ≡ xml_uri
unfolding keeps_xml
keeps_xml_bound p uri k e = let d : same_truth (bytes_eq p (codes "xml")) (bytes_eq uri xml_uri) ≡ true = k in same_text uri xml_uri (rw e at d)

binding_xml : (p uri : List ℕ) → is_binding (binding p uri) ≡ true → keeps_xml p uri ≡ true
unfolding is_binding
binding_xml p uri b = (and_parts (is_empty_text p || not (is_empty_text uri)) (keeps_xml p uri) (and_parts ((is_empty_text p || not (is_empty_text uri)) && keeps_xml p uri) (keeps_xmlns p uri) b).0).1

xml_stays : (scope : List Binding) (p uri : List ℕ) → bound_uri scope (codes "xml") ≡ Some xml_uri → keeps_xml p uri ≡ true → bound_uri (scope ++ binding p uri ∷ []) (codes "xml") ≡ Some xml_uri
xml_stays scope p uri x k = rw (bound_uri_push scope (binding p uri) (codes "xml")) (go (bytes_eq p (codes "xml")) refl)
  where
    go : (b : Bool) → bytes_eq p (codes "xml") ≡ b → or_earlier (cond b (Some uri) None) (bound_uri scope (codes "xml")) ≡ Some xml_uri
    go true e = ap Some (keeps_xml_bound p uri k e)
    go false e = x

-- what a new declaration needs
pub record IsNew (h : Head) (p uri : List ℕ) : Type 0 where
  pub prefix : is_prefix p ≡ true
  pub uri_text : is_xml_text uri ≡ true
  pub is_one : is_binding (binding p uri) ≡ true
  pub unused : is_used h.used p ≡ false
  pub undeclared : is_declared h.declared p ≡ false

pub settled_new : (outer : List Binding) (h : Head) (p uri : List ℕ) → Settled outer h → IsNew h p uri → Settled outer (with_declared h p uri)
settled_new outer h p uri s n = record {
  scope = ap (λ x. x ++ binding p uri ∷ []) s.scope ∙ append_assoc outer h.declared (binding p uri ∷ []);
  xml = xml_stays h.scope p uri s.xml (binding_xml p uri n.is_one);
  bindings = rw (list_all-append is_binding h.declared (binding p uri ∷ []), s.bindings, n.is_one) refl;
  differ = differ_push h.declared (binding p uri) s.differ n.undeclared;
  spelled = rw (list_all-append is_spelled_binding h.declared (binding p uri ∷ []), s.spelled, n.prefix, n.uri_text) refl;
  used = λ q e u. ⊎_elim (λ d. binds_more h.scope p uri q (s.used q e d)) (λ d. go q (same_text p q d)) (or_cases (is_used h.used q) (bytes_eq p q) (used_cases h.used p q u));
}
  where
    go : (q : List ℕ) → p ≡ q → binds (h.scope ++ binding p uri ∷ []) q ≡ true
    go q d = rw (sym d) (bound_binds (h.scope ++ binding p uri ∷ []) p uri (pushed_same h.scope p uri))

-- a used prefix is not declared anew
pub not_new : (used : List (List ℕ)) (p q : List ℕ) → is_used used p ≡ false → is_used used q ≡ true → bytes_eq p q ≡ false
not_new used p q n u = false_from_ne_true (bytes_eq p q) (λ d. go (same_text p q d))
  where
    go : p ≡ q → ⊥
    go d = let x : is_used used p ≡ true = rw d u in no x n
