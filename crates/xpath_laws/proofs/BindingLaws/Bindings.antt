-- Bindings that a closed stylesheet may have are sound.
use Rattle.std.proofs.Common.{◌≡◌, ℕ, List, [], ◌∷◌, Bool, true, false, cond, not, refl}
use Rattle.std.proofs.Common.{sym, subst, codes, inl, inr}
use Rattle.std.proofs.lemmas.Bool.{and_parts, or_cases}
use Rattle.std.proofs.lemmas.Slice.Eq.{bytes_eq-Decides}
use Rattle.std.specs.List.{list_all}
use Rattle.std.specs.Str.{bytes_eq}
use Rattle.xt_names.specs.Allowed.{is_empty_text, keeps_xml, xml_uri, xmlns_uri}
use Rattle.xt_names.specs.Classes.{is_xml_text, is_in_ranges}
use Rattle.xt_names.specs.declared.names.Binding.{Binding}
use Rattle.closed_queries.specs.Texts.{is_free_prefix, is_free_uri, is_free_binding}
use Rattle.closed_sheets.specs.Values.{is_xml_binding, is_good_binding}
use Rattle.sound_expressions.specs.SoundForms.Sound.{SoundBinding, SoundBindings}
use Rattle.sound_expressions.proofs.SoundForms.NameLemmas.{no_uri}
use Rattle.xt_names.proofs.BoolLemmas.{is_false}
use Rattle.xt_names.specs.ExprNames.{uri_of}

free_sound : (b : Binding) → is_free_binding b ≡ true → SoundBinding b.prefix b.uri
unfolding is_free_binding is_free_prefix is_free_uri keeps_xml
free_sound b h =
    let a = and_parts (is_free_prefix b.prefix) (is_free_uri b.uri) h in
    let p = and_parts (not (bytes_eq b.prefix (codes "xml"))) (not (bytes_eq b.prefix (codes "xmlns")))
    (and_parts (is_xml_text b.prefix) _ a.0).1 in
    let t = and_parts (is_xml_text b.uri) _ a.1 in
    let u = and_parts (not (bytes_eq b.uri xml_uri)) (not (bytes_eq b.uri xmlns_uri)) t.1 in
    let no_xml = is_false (bytes_eq b.prefix (codes "xml")) p.0 in
    let other = is_false (bytes_eq b.uri xml_uri) u.0 in
    record {
      good = record { text = t.0; other = is_false (bytes_eq b.uri xmlns_uri) u.1 };
      xml = λ e. rw (no_xml, other) refl;
      xmlns = λ e. is_false (bytes_eq b.prefix (codes "xmlns")) p.1;
    }

own_sound : SoundBinding (codes "xml") xml_uri
unfolding is_xml_text is_in_ranges keeps_xml
own_sound = record {
  good = record { text = refl; other = refl };
  xml = λ e. refl;
  xmlns = λ e. refl;
}

xml_sound : (b : Binding) → is_xml_binding b ≡ true → SoundBinding b.prefix b.uri
unfolding is_xml_binding
xml_sound b h =
    let a = and_parts (bytes_eq b.prefix (codes "xml")) (bytes_eq b.uri xml_uri) h in
    let prefix = (bytes_eq-Decides b.prefix (codes "xml")).0 a.0 in
    let uri = (bytes_eq-Decides b.uri xml_uri).0 a.1 in
    subst (λ p. SoundBinding p b.uri) (sym prefix)
    (subst (λ u. SoundBinding (codes "xml") u) (sym uri) own_sound)

one_sound : (b : Binding) → is_good_binding b ≡ true → SoundBinding b.prefix b.uri
unfolding is_good_binding
one_sound b h = elim (or_cases (is_xml_binding b) (is_free_binding b) h) [
  | inl x ↦ xml_sound b x
  | inr f ↦ free_sound b f
]

none_sound : (prefix : List ℕ) → SoundBinding prefix []
unfolding is_empty_text
none_sound prefix = record { good = no_uri; xml = λ e. absurd cc; xmlns = λ e. absurd cc }

first_sound : (b : Binding) (prefix uri : List ℕ) → is_good_binding b ≡ true
    → SoundBinding prefix uri → (x : Bool) → bytes_eq b.prefix prefix ≡ x
    → SoundBinding prefix (cond x b.uri uri)
first_sound b prefix uri h others true e =
    subst (λ p. SoundBinding p b.uri) ((bytes_eq-Decides b.prefix prefix).0 e) (one_sound b h)
first_sound b prefix uri h others false e = others

pub bindings_sound : (bound : List Binding) → list_all is_good_binding bound ≡ true
    → SoundBindings bound
bindings_sound [] h prefix = none_sound prefix
bindings_sound (b ∷ bs) h prefix =
    let a = and_parts (is_good_binding b) (list_all is_good_binding bs) h in
    first_sound b prefix (uri_of bs prefix) a.0 (bindings_sound bs a.1 prefix)
    (bytes_eq b.prefix prefix) refl
