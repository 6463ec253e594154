-- Tokens whose texts are of characters of XML and whose names can be written (XML 1.0, 2.2;
-- Namespaces in XML 1.0, 4), and bindings of prefixes that XML and its namespaces allow.
use Rattle.std.specs.Prelude.{◌≡◌, ℕ, List, Bool, true, false, ◌&&◌, ◌||◌, codes}
use Rattle.std.specs.List.{list_all}
use Rattle.std.specs.Str.{bytes_eq}
use Rattle.xt_names.specs.Allowed.{is_empty_text, keeps_xml, xml_uri, xmlns_uri}
use Rattle.xt_names.specs.Classes.{is_ncname_text, is_xml_text}
use Rattle.xt_names.specs.declared.names.Binding.{Binding}
use Rattle.xt_syntax.specs.declared.prefixes.Prefixes.{Prefixes}
use Rattle.expr_keys.specs.declared.tokens.Token.{Token}
use Rattle.expr_keys.specs.declared.tokens.Token.TheVariants as token
use Rattle.xt_names.specs.ExprNames.{uri_of}

abbrev pub is_sound_prefix : List ℕ → Bool
is_sound_prefix prefix = is_empty_text prefix || is_ncname_text prefix

abbrev pub is_sound_token : Token → Bool
is_sound_token (token.Name n) = is_ncname_text n
is_sound_token (token.Qname p n) = is_ncname_text p && is_ncname_text n
is_sound_token (token.AnyLocal p) = is_ncname_text p
is_sound_token (token.AnyPrefix n) = is_ncname_text n
is_sound_token (token.Quoted t) = is_xml_text t
is_sound_token (token.StartTagOpen p n) = is_sound_prefix p && is_ncname_text n
is_sound_token (token.ChildTagOpen p n) = is_sound_prefix p && is_ncname_text n
is_sound_token (token.Attribute p n) = is_sound_prefix p && is_ncname_text n
is_sound_token (token.EndTag p n) = is_sound_prefix p && is_ncname_text n
is_sound_token (token.Chars t literal) = is_xml_text t
is_sound_token _ = true

abbrev pub are_sound : List Token → Bool
are_sound ts = list_all is_sound_token ts

-- a uri that a name may have
pub record SoundUri (uri : List ℕ) : Type 0 where
  pub text : is_xml_text uri ≡ true
  pub other : bytes_eq uri xmlns_uri ≡ false

-- .. and that of a prefix, which is that of xml exactly where the prefix is `xml`, and none where it
-- is `xmlns`
pub record SoundBinding (prefix uri : List ℕ) : Type 0 where
  pub good : SoundUri uri
  pub xml : is_empty_text uri ≡ false → keeps_xml prefix uri ≡ true
  pub xmlns : is_empty_text uri ≡ false → bytes_eq prefix (codes "xmlns") ≡ false

abbrev pub SoundBindings : List Binding → Type 0
SoundBindings bound = (prefix : List ℕ) → SoundBinding prefix (uri_of bound prefix)

pub record SoundPrefixes (p : Prefixes) : Type 0 where
  pub bound : SoundBindings p.bound
  pub element : SoundUri p.element_default
  pub no_xml : bytes_eq p.element_default xml_uri ≡ false
  pub function : SoundUri p.function_default
