-- A written start tag is read back with its declarations and attributes.
use Rattle.std.proofs.Common.{◌≡◌, ℕ, List, [], ◌∷◌, ◌++◌, ◌∙◌, Bool, true, false, cond, ◌&&◌, refl, ap, sym, subst, append_assoc, append-nil, codes}
use Rattle.std.proofs.lemmas.Bool.{and_parts}
use Rattle.std.specs.List.{list_all}
use Rattle.xt_names.specs.Allowed.{is_empty_text}
use Rattle.xt_names.specs.Classes.{is_in_ranges, is_xml_text, begins_name, is_ncname_text}
use Rattle.xt_names.specs.declared.names.Binding.{Binding}
use Rattle.xt_names.specs.declared.names.Name.{Name}
use Rattle.xt_tree.specs.declared.attributes.Attribute.{Attribute}
use Rattle.doc_grammar.specs.RawNames.{RawName, plain_name, prefixed_name, RawAttribute, RawTag, tag_named}
use Rattle.doc_grammar.specs.Lexemes.{Spaces}
use Rattle.doc_grammar.specs.Lexemes as lexemes
use Rattle.doc_grammar.specs.Document.{QName, Equals, Valued, Attributes, AtEnd}
use Rattle.doc_grammar.specs.Document as doc
use Rattle.doc_grammar.proofs.CharacterFacts.{double_quote}
use Rattle.doc_writer.specs.Escapes.{escaped_value}
use Rattle.doc_writer.specs.Written.{qualified, quoted, declaration, declarations, written_attribute, written_attributes, later_prefixes, start_tag}
use Rattle.doc_writer.specs.Heads.{Head}
use Rattle.doc_laws.proofs.Texts.{value_back}
use Rattle.doc_laws.proofs.Names.{Stops, is_prefix, raw_name, ncname_back, qname_back}
use Rattle.xt_names.specs.Characters.{is_space, is_name_char, Ends}
use Rattle.xt_names.proofs.CharacterLemmas.{colon_name}

-- what is written, as it is read

abbrev pub declaring_name : List ℕ → RawName
declaring_name [] = plain_name (codes "xmlns")
declaring_name (c ∷ cs) = prefixed_name (codes "xmlns") (c ∷ cs)

abbrev pub raw_declaration : Binding → RawAttribute
raw_declaration b = record { name = declaring_name b.prefix; value = b.uri }

abbrev pub raw_declarations : List Binding → List RawAttribute
raw_declarations [] = []
raw_declarations (b ∷ bs) = raw_declaration b ∷ raw_declarations bs

abbrev pub raw_attribute : List ℕ → Attribute → RawAttribute
raw_attribute prefix a = record { name = raw_name prefix a.name.local; value = a.value }

abbrev pub raw_attributes : List (List ℕ) → List Attribute → List RawAttribute
raw_attributes prefixes [] = []
raw_attributes [] (a ∷ rest) = []
raw_attributes (p ∷ prefixes) (a ∷ rest) = raw_attribute p a ∷ raw_attributes prefixes rest

-- what may be written

abbrev pub is_spelled_binding : Binding → Bool
is_spelled_binding b = is_prefix b.prefix && is_xml_text b.uri

abbrev pub is_spelled_attribute : List ℕ → Attribute → Bool
is_spelled_attribute prefix a = (is_prefix prefix && is_ncname_text a.name.local) && is_xml_text a.value

abbrev pub are_spelled : List (List ℕ) → List Attribute → Bool
are_spelled prefixes [] = true
are_spelled [] (a ∷ rest) = false
are_spelled (p ∷ prefixes) (a ∷ rest) = is_spelled_attribute p a && are_spelled prefixes rest

-- what stops a name

space_stops : (rest : List ℕ) → Stops (32 ∷ rest)
unfolding is_name_char is_in_ranges
space_stops rest = record { no_name = refl; no_colon = refl }

equals_stops : (rest : List ℕ) → Stops (61 ∷ rest)
unfolding is_name_char is_in_ranges
equals_stops rest = record { no_name = refl; no_colon = refl }

pub slash_stops : (rest : List ℕ) → Stops (47 ∷ rest)
unfolding is_name_char is_in_ranges
slash_stops rest = record { no_name = refl; no_colon = refl }

pub close_stops : (rest : List ℕ) → Stops (62 ∷ rest)
unfolding is_name_char is_in_ranges
close_stops rest = record { no_name = refl; no_colon = refl }

-- one attribute

pub a_blank : is_space 32 ≡ true
unfolding is_space
a_blank = refl

abbrev tag : RawName → List RawAttribute → RawTag
tag name attributes = record { name = name; attributes = attributes }

-- the attribute's name and its value in quotes
attribute_back : (front : List RawAttribute) (name raw : RawName) (spelled value ts rest : List ℕ) (whole : RawTag)
    → QName (spelled ++ 61 ∷ 34 ∷ (escaped_value value ++ 34 ∷ ts)) name (61 ∷ 34 ∷ (escaped_value value ++ 34 ∷ ts)) → is_xml_text value ≡ true
    → Attributes (tag raw (front ++ record { name = name; value = value } ∷ [])) ts whole rest
    → Attributes (tag raw front) (32 ∷ (spelled ++ 61 ∷ 34 ∷ (escaped_value value ++ 34 ∷ ts))) whole rest
attribute_back front name raw spelled value ts rest whole q x k =
    doc.space a_blank (doc.attribute q (doc.equals lexemes.no_space lexemes.no_space) double_quote
    (value_back [] value ts x) k)

-- what is written in quotes, before these characters
quoted_before : (value ts : List ℕ) → quoted value ++ ts ≡ 61 ∷ 34 ∷ (escaped_value value ++ 34 ∷ ts)
unfolding quoted
quoted_before value ts = append_assoc (61 ∷ 34 ∷ escaped_value value) (34 ∷ []) ts

-- declarations

abbrev declaring_text : List ℕ → List ℕ
declaring_text [] = codes "xmlns"
declaring_text (c ∷ cs) = codes "xmlns:" ++ (c ∷ cs)

xmlns_name : is_ncname_text (codes "xmlns") ≡ true
unfolding is_ncname_text begins_name is_in_ranges
xmlns_name = refl

declaring_back : (prefix rest : List ℕ) → is_prefix prefix ≡ true → Stops rest → QName (declaring_text prefix ++ rest) (declaring_name prefix) rest
unfolding is_empty_text
declaring_back [] rest p s = doc.plain (ncname_back (codes "xmlns") rest xmlns_name s.no_name) s.no_colon
declaring_back (c ∷ cs) rest p s = doc.prefixed (ncname_back (codes "xmlns") (58 ∷ ((c ∷ cs) ++ rest)) xmlns_name colon_name) (ncname_back (c ∷ cs) rest p s.no_name)

declaration_before : (b : Binding) (ts : List ℕ) → declaration b ++ ts ≡ 32 ∷ (declaring_text b.prefix ++ 61 ∷ 34 ∷ (escaped_value b.uri ++ 34 ∷ ts))
unfolding declaration is_empty_text
declaration_before b ts = go b.prefix
  where
    go : (prefix : List ℕ) → (cond (is_empty_text prefix) (codes " xmlns") (codes " xmlns:" ++ prefix) ++ quoted b.uri) ++ ts ≡ 32 ∷ (declaring_text prefix ++ 61 ∷ 34 ∷ (escaped_value b.uri ++ 34 ∷ ts))
    go [] = append_assoc (codes " xmlns") (quoted b.uri) ts ∙ ap (λ x. codes " xmlns" ++ x) (quoted_before b.uri ts)
    go (c ∷ cs) = append_assoc (codes " xmlns:" ++ (c ∷ cs)) (quoted b.uri) ts ∙ ap (λ x. (codes " xmlns:" ++ (c ∷ cs)) ++ x) (quoted_before b.uri ts)

declarations_back : (front : List RawAttribute) (ds : List Binding) (raw : RawName) (ts rest : List ℕ) (whole : RawTag) → list_all is_spelled_binding ds ≡ true
    → Attributes (tag raw (front ++ raw_declarations ds)) ts whole rest → Attributes (tag raw front) (declarations ds ++ ts) whole rest
declarations_back front [] raw ts rest whole a k = let P : List RawAttribute → Type 0 = λ x. Attributes (tag raw x) ts whole rest in subst P (append-nil front) k
declarations_back front (b ∷ ds) raw ts rest whole a k =
    let parts = and_parts (is_spelled_binding b) (list_all is_spelled_binding ds) a in
    let own = and_parts (is_prefix b.prefix) (is_xml_text b.uri) parts.0 in
    let left = declarations ds ++ ts in
    let P : List RawAttribute → Type 0 = λ x. Attributes (tag raw x) ts whole rest in
    let Q : List ℕ → Type 0 = λ x. Attributes (tag raw front) x whole rest in
    let e = append_assoc (declaration b) (declarations ds) ts ∙ declaration_before b left in
    let again = declarations_back (front ++ raw_declaration b ∷ []) ds raw ts rest whole parts.1 (subst P (sym (append_assoc front (raw_declaration b ∷ []) (raw_declarations ds))) k) in
    subst Q (sym e) (attribute_back front (declaring_name b.prefix) raw (declaring_text b.prefix) b.uri left rest whole
    (declaring_back b.prefix (61 ∷ 34 ∷ (escaped_value b.uri ++ 34 ∷ left)) own.0 (equals_stops (34 ∷ (escaped_value b.uri ++ 34 ∷ left)))) own.1 again)

-- attributes

attribute_before : (p : List ℕ) (a : Attribute) (ts : List ℕ) → written_attribute p a ++ ts ≡ 32 ∷ (qualified p a.name.local ++ 61 ∷ 34 ∷ (escaped_value a.value ++ 34 ∷ ts))
unfolding written_attribute
attribute_before p a ts = append_assoc (32 ∷ qualified p a.name.local) (quoted a.value) ts ∙ ap (λ x. (32 ∷ qualified p a.name.local) ++ x) (quoted_before a.value ts)

attributes_back : (front : List RawAttribute) (ps : List (List ℕ)) (attributes : List Attribute) (raw : RawName) (ts rest : List ℕ) (whole : RawTag) → are_spelled ps attributes ≡ true
    → Attributes (tag raw (front ++ raw_attributes ps attributes)) ts whole rest → Attributes (tag raw front) (written_attributes ps attributes ++ ts) whole rest
attributes_back front ps [] raw ts rest whole a k = let P : List RawAttribute → Type 0 = λ x. Attributes (tag raw x) ts whole rest in subst P (append-nil front) k
attributes_back front [] (x ∷ more) raw ts rest whole a k = absurd (cc)
attributes_back front (p ∷ ps) (x ∷ more) raw ts rest whole a k =
    let parts = and_parts (is_spelled_attribute p x) (are_spelled ps more) a in
    let own = and_parts (is_prefix p && is_ncname_text x.name.local) (is_xml_text x.value) parts.0 in
    let named = and_parts (is_prefix p) (is_ncname_text x.name.local) own.0 in
    let left = written_attributes ps more ++ ts in
    let P : List RawAttribute → Type 0 = λ y. Attributes (tag raw y) ts whole rest in
    let Q : List ℕ → Type 0 = λ y. Attributes (tag raw front) y whole rest in
    let e = append_assoc (written_attribute p x) (written_attributes ps more) ts ∙ attribute_before p x left in
    let again = attributes_back (front ++ raw_attribute p x ∷ []) ps more raw ts rest whole parts.1 (subst P (sym (append_assoc front (raw_attribute p x ∷ []) (raw_attributes ps more))) k) in
    subst Q (sym e) (attribute_back front (raw_name p x.name.local) raw (qualified p x.name.local) x.value left rest whole
    (qname_back p x.name.local (61 ∷ 34 ∷ (escaped_value x.value ++ 34 ∷ left)) named.0 named.1 (equals_stops (34 ∷ (escaped_value x.value ++ 34 ∷ left)))) own.1 again)

-- start tags

attributes_stop : (ps : List (List ℕ)) (attributes : List Attribute) (rest : List ℕ) → Stops rest → Stops (written_attributes ps attributes ++ rest)
attributes_stop ps [] rest s = s
attributes_stop [] (a ∷ more) rest s = s
attributes_stop (p ∷ ps) (a ∷ more) rest s =
    let P : List ℕ → Type 0 = λ x. Stops x in
    subst P (sym (append_assoc (written_attribute p a) (written_attributes ps more) rest ∙ attribute_before p a (written_attributes ps more ++ rest))) (space_stops _)

declarations_stop : (ds : List Binding) (rest : List ℕ) → Stops rest → Stops (declarations ds ++ rest)
declarations_stop [] rest s = s
declarations_stop (b ∷ ds) rest s =
    let P : List ℕ → Type 0 = λ x. Stops x in
    subst P (sym (append_assoc (declaration b) (declarations ds) rest ∙ declaration_before b (declarations ds ++ rest))) (space_stops _)

-- the tag of an element with these declarations, and these prefixes of its attributes
abbrev pub tag_of : Name → List Binding → List (List ℕ) → List Attribute → RawTag
tag_of name ds ps attributes = tag (raw_name name.prefix name.local) (raw_declarations ds ++ raw_attributes ps attributes)

-- what may be written of a start tag
pub record IsSpelled (name : Name) (ds : List Binding) (ps : List (List ℕ)) (attributes : List Attribute) : Type 0 where
  pub prefix : is_prefix name.prefix ≡ true
  pub local : is_ncname_text name.local ≡ true
  pub declared : list_all is_spelled_binding ds ≡ true
  pub attributes_are : are_spelled ps attributes ≡ true

-- a start tag as it is written, read up to its end
pub record IsTag (name : Name) (ds : List Binding) (ps : List (List ℕ)) (attributes : List Attribute) (written rest : List ℕ) : Type 0 where
  pub ts : List ℕ
  pub mid : List ℕ
  pub begins : written ≡ 60 ∷ ts
  pub named : QName ts (raw_name name.prefix name.local) mid
  pub reads : Attributes (tag_named (raw_name name.prefix name.local)) mid (tag_of name ds ps attributes) rest

pub tag_back : (name : Name) (h : Head) (attributes : List Attribute) (rest : List ℕ) → IsSpelled name h.declared (later_prefixes h.used) attributes → Stops rest → AtEnd rest
    → IsTag name h.declared (later_prefixes h.used) attributes (start_tag h name attributes ++ rest) rest
unfolding start_tag
tag_back name h attributes rest s stops ends =
    let ps = later_prefixes h.used in
    let D = declarations h.declared in
    let A = written_attributes ps attributes in
    let Q = qualified name.prefix name.local in
    let raw = raw_name name.prefix name.local in
    record {
      ts = Q ++ (D ++ (A ++ rest));
      mid = D ++ (A ++ rest);
      begins = append_assoc ((60 ∷ Q) ++ D) A rest ∙ append_assoc (60 ∷ Q) D (A ++ rest);
      named = qname_back name.prefix name.local (D ++ (A ++ rest)) s.prefix s.local (declarations_stop h.declared (A ++ rest) (attributes_stop ps attributes rest stops));
      reads = declarations_back [] h.declared raw (A ++ rest) rest (tag_of name h.declared ps attributes) s.declared
          (attributes_back (raw_declarations h.declared) ps attributes raw rest rest (tag_of name h.declared ps attributes) s.attributes_are (doc.none ends));
    }
