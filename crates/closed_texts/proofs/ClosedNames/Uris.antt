-- The default namespace of a place, and the uris of its prefixes.
use Rattle.std.proofs.Common.{◌≡◌, ℕ, List, [], ◌∷◌, Bool, true, false, cond, refl, sym, ◌∙◌, codes}
use Rattle.std.proofs.Common.{inl, inr}
use Rattle.std.proofs.lemmas.Bool.{and_parts, or_cases}
use Rattle.std.proofs.lemmas.Slice.Eq.{bytes_eq-Decides}
use Rattle.std.specs.List.{list_all}
use Rattle.std.specs.Str.{bytes_eq}
use Rattle.xt_names.specs.Allowed.{xml_uri}
use Rattle.xt_names.specs.Classes.{is_xml_text}
use Rattle.xt_names.specs.declared.names.Binding.{Binding}
use Rattle.closed_queries.specs.Texts.{is_free_uri, is_free_binding, is_free_prefix}
use Rattle.closed_sheets.specs.Values.{is_xml_binding, is_good_binding}
use Rattle.xt_names.specs.ExprNames.{uri_of}

no_uri_free : is_free_uri [] ≡ true
unfolding is_free_uri is_xml_text
no_uri_free = refl

same_text : (xs ys : List ℕ) → bytes_eq xs ys ≡ true → xs ≡ ys
same_text xs ys h = (bytes_eq-Decides xs ys).0 h

-- the prefix xml is some prefix
xml_prefix : (b : Binding) → is_xml_binding b ≡ true → bytes_eq b.prefix [] ≡ true → ⊥
unfolding is_xml_binding
xml_prefix b h e =
    let xml = same_text b.prefix (codes "xml")
    (and_parts (bytes_eq b.prefix (codes "xml")) (bytes_eq b.uri xml_uri) h).0 in
    let none = same_text b.prefix [] e in
    no_xml (sym none ∙ xml)
  where
    no_xml : [] ≡ codes "xml" → ⊥
    no_xml k = cc

default_free : (b : Binding) → is_good_binding b ≡ true → bytes_eq b.prefix [] ≡ true
    → is_free_uri b.uri ≡ true
unfolding is_good_binding is_free_binding
default_free b h e = elim (or_cases (is_xml_binding b) (is_free_binding b) h) [
  | inl x ↦ absurd (xml_prefix b x e)
  | inr f ↦ (and_parts (is_free_prefix b.prefix) (is_free_uri b.uri) f).1
]

pub default_uri_free : (bound : List Binding) → list_all is_good_binding bound ≡ true
    → is_free_uri (uri_of bound []) ≡ true
default_uri_free [] h = no_uri_free
default_uri_free (b ∷ bs) h =
    let k = and_parts (is_good_binding b) (list_all is_good_binding bs) h in
    go (bytes_eq b.prefix []) refl k.0 (default_uri_free bs k.1)
  where
    go : (x : Bool) → bytes_eq b.prefix [] ≡ x → is_good_binding b ≡ true
        → is_free_uri (uri_of bs []) ≡ true → is_free_uri (cond x b.uri (uri_of bs [])) ≡ true
    go true e g others = default_free b g e
    go false e g others = others

pub no_default_free : is_free_uri [] ≡ true
no_default_free = no_uri_free
