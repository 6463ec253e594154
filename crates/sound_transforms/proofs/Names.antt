-- Names that instructions compute are names that XML and its namespaces allow.
use Rattle.std.proofs.Common.{◌≡◌, ℕ, List, [], ◌∷◌, Bool, true, false, ◌&&◌, ◌||◌, refl, subst}
use Rattle.std.proofs.Common.{codes}
use Rattle.std.proofs.lemmas.Bool.{and_parts}
use Rattle.std.proofs.lemmas.Slice.Eq.{bytes_eq-Decides}
use Rattle.std.specs.Prelude.{Option, Some, None, Ok, Err, if◌then◌else◌}
use Rattle.std.specs.List.{list_all}
use Rattle.std.specs.Str.{bytes_eq}
use Rattle.xt_names.specs.Allowed.{is_allowed_name, is_empty_text, is_prefix_of, keeps_xml}
use Rattle.xt_names.specs.Allowed.{keeps_xmlns, xml_uri}
use Rattle.xt_names.specs.Classes.{is_ncname_text}
use Rattle.xt_names.specs.declared.codes.Code.{Code}
use Rattle.xt_names.specs.declared.codes.Code.TheVariants.{SheetDynamic}
use Rattle.xt_names.specs.declared.codes.SheetDynamicCode.TheVariants.{XTDE0850, XTDE0855, XTDE0860}
use Rattle.xt_names.specs.declared.names.Binding.{Binding as Namespace}
use Rattle.xt_names.specs.declared.names.Name.{Name}
use Rattle.xt_tree.specs.Sound.{is_named_xmlns, is_sound_name}
use Rattle.fn_lib.specs.TextOperations.Searches.{text_before, text_after}
use Rattle.closed_queries.specs.Texts.{is_free_binding, is_free_prefix, is_free_uri}
use Rattle.closed_sheets.specs.Values.{is_good_binding, is_xml_binding}
use Rattle.expr_laws.specs.Carrier.{OnValue}
use Rattle.meaning_laws.proofs.SoundValues.Trees.{IsName}
use Rattle.meaning_laws.proofs.SoundRuns.Names.{IsBound, free_binds, free_uri, may_bind, none_bound}
use Rattle.meaning_laws.proofs.SoundRuns.Names.{no_uri, prefixed_name as allowed_name, xml_binds}
use Rattle.transform_meaning.specs.Names.{attribute_name, element_name}
use Rattle.transform_meaning.specs.Names.{name_of_parts, plain_name, prefixed_name, spelled_name}
use Rattle.xt_names.specs.ExprNames.{uri_of}

-- a binding in scope binds a prefix to a uri that may stand with it
binds : (b : Namespace) → is_good_binding b ≡ true → may_bind b.prefix b.uri ≡ true
unfolding is_good_binding is_xml_binding is_free_binding
binds b h = by (is_xml_binding b) refl h
  where
    by : (x : Bool) → is_xml_binding b ≡ x → (x || is_free_binding b) ≡ true →
        may_bind b.prefix b.uri ≡ true
    by true e g =
        let a = and_parts (bytes_eq b.prefix (codes "xml")) (bytes_eq b.uri xml_uri) e in
        let p = (bytes_eq-Decides b.prefix (codes "xml")).0 a.0 in
        let u = (bytes_eq-Decides b.uri xml_uri).0 a.1 in rw (p, u) xml_binds
    by false e g =
        let a = and_parts (is_free_prefix b.prefix) (is_free_uri b.uri) g in
        free_binds b.prefix b.uri a.0 a.1

scope_binds : (bs : List Namespace) (prefix : List ℕ) → list_all is_good_binding bs ≡ true →
    IsBound prefix (uri_of bs prefix)
scope_binds [] prefix h = none_bound prefix
scope_binds (b ∷ bs) prefix h =
    let a = and_parts (is_good_binding b) (list_all is_good_binding bs) h in
    by (bytes_eq b.prefix prefix) ((bytes_eq-Decides b.prefix prefix).0) (binds b a.0)
    (scope_binds bs prefix a.1)
  where
    by : (c : Bool) → (c ≡ true → b.prefix ≡ prefix) → may_bind b.prefix b.uri ≡ true →
        IsBound prefix (uri_of bs prefix) →
        IsBound prefix (if c then b.uri else uri_of bs prefix)
    by true d f g = λ e. subst (λ p. may_bind p b.uri ≡ true) (d refl) f
    by false d f g = g

-- names, each with what P asks of it beside
abbrev IsNamed : Bool → Name → Type 0
IsNamed xmlns n = IsName n × (xmlns ≡ true → is_named_xmlns n ≡ false)

prefixed_known : (xmlns : Bool) (no_name undeclared : Code) (scope : List Namespace)
    (prefix local : List ℕ) → list_all is_good_binding scope ≡ true →
    OnValue (IsNamed xmlns) (prefixed_name no_name undeclared scope prefix local)
unfolding is_named_xmlns
prefixed_known xmlns no_name undeclared scope prefix local h =
    by (is_ncname_text prefix && is_ncname_text local) refl (is_empty_text (uri_of scope prefix)) refl
  where
    by : (b : Bool) → (is_ncname_text prefix && is_ncname_text local) ≡ b → (d : Bool) →
        is_empty_text (uri_of scope prefix) ≡ d → OnValue (IsNamed xmlns)
        (if b then (if d then Err undeclared else Ok (record {
          prefix = prefix;
          uri = uri_of scope prefix;
          local = local;
        })) else Err no_name)
    by true e true f = tt
    by true e false f =
        let a = and_parts (is_ncname_text prefix) (is_ncname_text local) e in (
          allowed_name prefix (uri_of scope prefix) local a.0 f a.1 (scope_binds scope prefix h f),
          λ x. rw f refl,
        )
    by false e d f = tt

plain_known : (xmlns : Bool) (no_name : Code) (uri local : List ℕ) → is_free_uri uri ≡ true →
    (xmlns ≡ true → bytes_eq local (codes "xmlns") ≡ false) →
    OnValue (IsNamed xmlns) (plain_name no_name uri local)
unfolding is_named_xmlns is_sound_name is_allowed_name is_prefix_of is_empty_text keeps_xml keeps_xmlns
plain_known xmlns no_name uri local h g = by (is_ncname_text local) refl
  where
    none : (x : Bool) → (x && false) ≡ false
    none true = refl
    none false = refl

    by : (b : Bool) → is_ncname_text local ≡ b → OnValue (IsNamed xmlns)
        (if b then Ok (record { prefix = []; uri = uri; local = local }) else Err no_name)
    by true e =
        let u = free_uri uri h in
        (rw (e, u.0, u.1, u.2) refl, λ x. rw (g x) (none (is_empty_text uri)))
    by false e = tt

parts_known : (xmlns : Bool) (no_name undeclared : Code) (scope : List Namespace)
    (uri text : List ℕ) (p l : Option (List ℕ)) → list_all is_good_binding scope ≡ true →
    is_free_uri uri ≡ true → (xmlns ≡ true → bytes_eq text (codes "xmlns") ≡ false) →
    OnValue (IsNamed xmlns) (name_of_parts no_name undeclared scope uri text p l)
parts_known xmlns no_name undeclared scope uri text (Some prefix) (Some local) h g x =
    prefixed_known xmlns no_name undeclared scope prefix local h
parts_known xmlns no_name undeclared scope uri text (Some prefix) None h g x = tt
parts_known xmlns no_name undeclared scope uri text None l h g x =
    plain_known xmlns no_name uri text g x

spelled_known : (xmlns : Bool) (no_name undeclared : Code) (scope : List Namespace)
    (uri text : List ℕ) → list_all is_good_binding scope ≡ true → is_free_uri uri ≡ true →
    (xmlns ≡ true → bytes_eq text (codes "xmlns") ≡ false) →
    OnValue (IsNamed xmlns) (spelled_name no_name undeclared scope uri text)
unfolding spelled_name
spelled_known xmlns no_name undeclared scope uri text h g x =
    parts_known xmlns no_name undeclared scope uri text (text_before (codes ":") text)
    (text_after (codes ":") text) h g x

pub element_known : (scope : List Namespace) (default text : List ℕ) →
    list_all is_good_binding scope ≡ true → is_free_uri default ≡ true →
    OnValue (IsNamed false) (element_name scope default text)
element_known scope default text h g =
    spelled_known false _ _ scope default text h g (λ e. absurd cc)

pub attribute_known : (scope : List Namespace) (text : List ℕ) →
    list_all is_good_binding scope ≡ true → OnValue (IsNamed true) (attribute_name scope text)
attribute_known scope text h = by (bytes_eq text (codes "xmlns")) refl
  where
    by : (b : Bool) → bytes_eq text (codes "xmlns") ≡ b → OnValue (IsNamed true)
        (if b then Err (SheetDynamic XTDE0855)
        else spelled_name (SheetDynamic XTDE0850) (SheetDynamic XTDE0860) scope [] text)
    by true e = tt
    by false e =
        spelled_known true (SheetDynamic XTDE0850) (SheetDynamic XTDE0860) scope [] text h no_uri
        (λ x. e)
