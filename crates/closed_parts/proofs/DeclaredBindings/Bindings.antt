-- The declarations of namespaces in a start tag may stand.
use Rattle.std.proofs.Common.{◌≡◌, ℕ, List, [], ◌∷◌, ◌++◌, Bool, true, false, cond, not, ◌&&◌, ◌||◌}
use Rattle.std.proofs.Common.{Option, Some, None, refl, codes}
use Rattle.std.proofs.lemmas.Bool.{and_parts, and_from}
use Rattle.std.proofs.lemmas.Option.{none-some}
use Rattle.std.specs.List.{list_all}
use Rattle.std.specs.Str.{bytes_eq}
use Rattle.xt_names.specs.Allowed.{is_empty_text, keeps_xml, keeps_xmlns, same_truth, xml_uri}
use Rattle.xt_names.specs.Allowed.{xmlns_uri}
use Rattle.xt_names.specs.Classes.{is_xml_text}
use Rattle.xt_names.specs.declared.names.Binding.{Binding}
use Rattle.closed_queries.specs.Texts.{is_free_prefix, is_free_uri, is_free_binding}
use Rattle.closed_sheets.specs.Values.{is_xml_binding, is_good_binding}
use Rattle.doc_grammar.specs.RawNames.{RawName, RawAttribute, RawTag}
use Rattle.doc_grammar.specs.Scopes.{declared_prefix, declared_by, declarations, with_declaration}
use Rattle.doc_grammar.specs.Scopes.{is_binding, are_declarations, prefixes_differ, Opened, opened}
use Rattle.doc_grammar.specs.Scopes.{opened_with, element_name, named_attributes}
use Rattle.doc_grammar.proofs.SoundNames.{IsRaw, AreRaw}
use Rattle.sound_expressions.proofs.SoundForms.NameLemmas.{name_is_text}
use Rattle.xt_names.proofs.ClassLemmas.{no_text}

-- a binding that may be declared: of xml with its own uri, or of neither
good_one : (prefix uri : List ℕ) → is_xml_text prefix ≡ true → is_xml_text uri ≡ true
    → keeps_xml prefix uri ≡ true → keeps_xmlns prefix uri ≡ true
    → is_good_binding (record { prefix = prefix; uri = uri }) ≡ true
unfolding is_good_binding is_xml_binding is_free_binding is_free_prefix is_free_uri keeps_xml
    keeps_xmlns
good_one prefix uri p u x n =
    let k = and_parts (not (bytes_eq prefix (codes "xmlns"))) (not (bytes_eq uri xmlns_uri)) n in
    go (bytes_eq prefix (codes "xml")) (bytes_eq uri xml_uri) x k.0 k.1
  where
    go : (a b : Bool) → same_truth a b ≡ true → not (bytes_eq prefix (codes "xmlns")) ≡ true
        → not (bytes_eq uri xmlns_uri) ≡ true
        → ((a && b) || ((is_xml_text prefix && (not a && not (bytes_eq prefix (codes "xmlns"))))
        && (is_xml_text uri && (not b && not (bytes_eq uri xmlns_uri))))) ≡ true
    go true true e k m = refl
    go true false e k m = absurd cc
    go false true e k m = absurd cc
    go false false e k m = rw (p, k, u, m) refl

-- the prefix that is declared is a text
abbrev IfText : Option (List ℕ) → Type 0
IfText None = Unit {0}
IfText (Some prefix) = is_xml_text prefix ≡ true

prefix_text : (name : RawName) → IsRaw name → IfText (declared_by name)
unfolding declared_by
prefix_text name r = go name.prefix
  where
    bare : (b : Bool) → IfText (cond b (Some []) None)
    bare true = no_text
    bare false = tt

    prefixed : (b : Bool) → IfText (cond b (Some name.local) None)
    prefixed true = name_is_text name.local r.0
    prefixed false = tt

    go : (prefix : Option (List ℕ)) → IfText (declared_prefix prefix name.local)
    go None = bare (bytes_eq name.local (codes "xmlns"))
    go (Some prefix) = prefixed (bytes_eq prefix (codes "xmlns"))

binding_good : (prefix uri : List ℕ) → is_xml_text prefix ≡ true → is_xml_text uri ≡ true
    → is_binding (record { prefix = prefix; uri = uri }) ≡ true
    → is_good_binding (record { prefix = prefix; uri = uri }) ≡ true
unfolding is_binding
binding_good prefix uri p u b =
    let k = and_parts ((is_empty_text prefix || not (is_empty_text uri)) && keeps_xml prefix uri)
    (keeps_xmlns prefix uri) b in
    let x = and_parts (is_empty_text prefix || not (is_empty_text uri)) (keeps_xml prefix uri)
    k.0 in
    good_one prefix uri p u x.1 k.1

declared_good : (raw : List RawAttribute) → AreRaw raw
    → list_all is_binding (declarations raw) ≡ true
    → list_all is_good_binding (declarations raw) ≡ true
unfolding declarations
declared_good [] r h = refl
declared_good (a ∷ more) r h =
    go (declared_by a.name) (prefix_text a.name r.0) h (λ e. declared_good more r.2 e)
  where
    go : (o : Option (List ℕ)) → IfText o
        → list_all is_binding (with_declaration o a.value (declarations more)) ≡ true
        → (list_all is_binding (declarations more) ≡ true
        → list_all is_good_binding (declarations more) ≡ true)
        → list_all is_good_binding (with_declaration o a.value (declarations more)) ≡ true
    go None t e others = others e
    go (Some prefix) t e others =
        let k = and_parts (is_binding (record { prefix = prefix; uri = a.value }))
        (list_all is_binding (declarations more)) e in
        and_from (is_good_binding (record { prefix = prefix; uri = a.value })) _
        (binding_good prefix a.value t r.1 k.0) (others k.1)

-- where it opens an element
opened_declares : (scope : List Binding) (t : RawTag) (o : Opened) → opened scope t ≡ Some o
    → list_all is_binding (declarations t.attributes) ≡ true
unfolding opened are_declarations
opened_declares scope t o e = go (are_declarations (declarations t.attributes)) refl e
  where
    go : (b : Bool) → are_declarations (declarations t.attributes) ≡ b
        → cond b (opened_with (scope ++ declarations t.attributes)
        (element_name (scope ++ declarations t.attributes) t.name)
        (named_attributes (scope ++ declarations t.attributes) t.attributes)) None ≡ Some o
        → list_all is_binding (declarations t.attributes) ≡ true
    go true k e =
        (and_parts (list_all is_binding (declarations t.attributes))
        (prefixes_differ (declarations t.attributes)) k).0
    go false k e = absurd (none-some _ e)

pub tag_good : (scope : List Binding) (t : RawTag) (o : Opened) → AreRaw t.attributes
    → opened scope t ≡ Some o → list_all is_good_binding (declarations t.attributes) ≡ true
tag_good scope t o r e = declared_good t.attributes r (opened_declares scope t o e)
