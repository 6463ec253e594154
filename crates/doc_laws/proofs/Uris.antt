-- The uris of a sound tree hold characters of XML alone.
use Rattle.std.proofs.Common.{◌≡◌, List, [], ◌∷◌, Bool, true, false, not, ◌&&◌, refl}
use Rattle.std.specs.List.{list_all}
use Rattle.std.proofs.lemmas.Bool.{and_parts}
use Rattle.xt_names.specs.Allowed.{is_allowed_name, is_empty_text}
use Rattle.xt_names.specs.Classes.{is_xml_text}
use Rattle.xt_names.specs.declared.names.Name.{Name}
use Rattle.xt_tree.specs.declared.attributes.Attribute.{Attribute}
use Rattle.xt_tree.specs.Forest.{Forest, end, doc, elem, text, comment, pi, attr}
use Rattle.xt_tree.specs.Sound.{is_sound_name, is_named_xmlns, is_sound_attribute, names_differ, are_sound_attributes, is_sound_comment, is_sound_pi, are_sound_behind}

abbrev pub has_uri_text : Name → Bool
has_uri_text name = is_xml_text name.uri

-- and those of all names, at any depth
abbrev pub keep_uris : Forest → Bool
keep_uris end = true
keep_uris (doc kids rest) = keep_uris kids && keep_uris rest
keep_uris (elem name attributes kids rest) = has_uri_text name && list_all (λ a. has_uri_text a.name) attributes && keep_uris kids && keep_uris rest
keep_uris (text t rest) = keep_uris rest
keep_uris (comment t rest) = keep_uris rest
keep_uris (pi target t rest) = keep_uris rest
keep_uris (attr name t rest) = has_uri_text name && keep_uris rest

name_uri : (name : Name) → is_sound_name name ≡ true → has_uri_text name ≡ true
unfolding is_sound_name
name_uri name s = (and_parts (is_allowed_name name.prefix name.uri name.local) (is_xml_text name.uri) s).1

attribute_uri : (a : Attribute) → is_sound_attribute a.name a.value ≡ true → has_uri_text a.name ≡ true
unfolding is_sound_attribute
attribute_uri a s =
    let x = and_parts (is_sound_name a.name && not (is_named_xmlns a.name)) (is_xml_text a.value) s in
    name_uri a.name (and_parts (is_sound_name a.name) (not (is_named_xmlns a.name)) x.0).0

attribute_uris : (attributes : List Attribute) → list_all (λ (a : Attribute). is_sound_attribute a.name a.value) attributes ≡ true → list_all (λ (a : Attribute). has_uri_text a.name) attributes ≡ true
attribute_uris [] s = refl
attribute_uris (a ∷ rest) s =
    let x = and_parts (is_sound_attribute a.name a.value) (list_all (λ (b : Attribute). is_sound_attribute b.name b.value) rest) s in
    rw (attribute_uri a x.0, attribute_uris rest x.1) refl

sound_attributes : (attributes : List Attribute) → are_sound_attributes attributes ≡ true → list_all (λ (a : Attribute). has_uri_text a.name) attributes ≡ true
unfolding are_sound_attributes
sound_attributes attributes s = attribute_uris attributes (and_parts (list_all (λ (a : Attribute). is_sound_attribute a.name a.value) attributes) (names_differ attributes) s).0

pub sound_uris : (after : Bool) (f : Forest) → are_sound_behind after f ≡ true → keep_uris f ≡ true
sound_uris after end s = refl
sound_uris after (doc kids rest) s = absurd (cc)
sound_uris after (elem name attributes kids rest) s =
    let a = and_parts ((is_sound_name name && are_sound_attributes attributes) && are_sound_behind false kids) (are_sound_behind false rest) s in
    let b = and_parts (is_sound_name name && are_sound_attributes attributes) (are_sound_behind false kids) a.0 in
    let c = and_parts (is_sound_name name) (are_sound_attributes attributes) b.0 in
    rw (name_uri name c.0, sound_attributes attributes c.1, sound_uris false kids b.1, sound_uris false rest a.1) refl
sound_uris after (text t rest) s = sound_uris true rest (and_parts ((not after && not (is_empty_text t)) && is_xml_text t) (are_sound_behind true rest) s).1
sound_uris after (comment t rest) s = sound_uris false rest (and_parts (is_sound_comment t) (are_sound_behind false rest) s).1
sound_uris after (pi target t rest) s = sound_uris false rest (and_parts (is_sound_pi target t) (are_sound_behind false rest) s).1
sound_uris after (attr name t rest) s = absurd (cc)
