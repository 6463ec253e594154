-- The characters of written trees.
use Rattle.std.proofs.Common.{◌≡◌, ℕ, suc, List, [], ◌∷◌, ◌++◌, Bool, true, false, not, cond, ◌&&◌, refl, sym, subst, codes}
use Rattle.std.specs.List.{list_all}
use Rattle.std.proofs.lemmas.Bool.{and_parts, not-true}
use Rattle.xt_names.specs.Allowed.{is_empty_text}
use Rattle.xt_names.specs.Classes.{is_in_ranges, is_xml_text, is_ncname_text}
use Rattle.xt_names.specs.declared.names.Binding.{Binding}
use Rattle.xt_names.specs.declared.names.Name.{Name}
use Rattle.xt_tree.specs.declared.attributes.Attribute.{Attribute}
use Rattle.xt_tree.specs.Forest.{Forest, end, doc, elem, text, comment, pi, attr}
use Rattle.xt_tree.specs.Sound.{is_sound_comment, is_sound_pi, are_sound_behind}
use Rattle.doc_writer.specs.Escapes.{escaped_text, escaped_value}
use Rattle.doc_writer.specs.Heads.{Head, head_of}
use Rattle.doc_writer.specs.Readable.{has_return, keep_returns}
use Rattle.doc_writer.specs.Written.{qualified, quoted, declaration, declarations, written_attribute, written_attributes, later_prefixes, start_tag, is_end, element_rest, element, written_comment, written_pi, written_forest}
use Rattle.doc_laws.proofs.Names.{is_prefix}
use Rattle.doc_laws.proofs.Tags.{is_spelled_binding, is_spelled_attribute, are_spelled, IsSpelled}
use Rattle.doc_laws.proofs.Lookups.{writing}
use Rattle.doc_laws.proofs.Markup.{comment_parts, instruction_parts}
use Rattle.doc_laws.proofs.Elements.{opens}
use Rattle.doc_laws.proofs.Contents.{Allows, element_parts, element_ready, kids_allowed, rest_allowed, less, text_parts}
use Rattle.doc_laws.proofs.Characters.{are_clean, clean_join, name_clean, text_clean, escaped_text_clean, escaped_value_clean}

-- fixed characters
fixed_clean : (are_clean (codes "<") ≡ true) × (are_clean (codes "-->") ≡ true) × (are_clean (codes "?>") ≡ true) × (are_clean (codes "</") ≡ true) × (are_clean (codes ">") ≡ true) × (are_clean (codes "/>") ≡ true)
unfolding is_in_ranges
fixed_clean = (refl, refl, refl, refl, refl, refl)

opening_clean : (are_clean (codes "<!--") ≡ true) × (are_clean (codes "<?") ≡ true) × (are_clean (codes " ") ≡ true) × (are_clean (codes ":") ≡ true) × (are_clean (codes "=\"") ≡ true) × (are_clean (codes "\"") ≡ true)
unfolding is_in_ranges
opening_clean = (refl, refl, refl, refl, refl, refl)

declaring_clean : (are_clean (codes " xmlns") ≡ true) × (are_clean (codes " xmlns:") ≡ true)
unfolding is_in_ranges
declaring_clean = (refl, refl)

-- names, attributes and declarations

qualified_clean : (prefix local : List ℕ) → is_prefix prefix ≡ true → is_ncname_text local ≡ true → are_clean (qualified prefix local) ≡ true
unfolding qualified is_empty_text
qualified_clean [] local p n = name_clean local n
qualified_clean (c ∷ cs) local p n = clean_join ((c ∷ cs) ++ codes ":") local (clean_join (c ∷ cs) (codes ":") (name_clean (c ∷ cs) p) opening_clean.3) (name_clean local n)

quoted_clean : (value : List ℕ) → is_xml_text value ≡ true → are_clean (quoted value) ≡ true
unfolding quoted
quoted_clean value x = clean_join (codes "=\"" ++ escaped_value value) (codes "\"") (clean_join (codes "=\"") (escaped_value value) opening_clean.4 (escaped_value_clean value x)) opening_clean.5

declared_clean : (prefix : List ℕ) → is_prefix prefix ≡ true → are_clean (cond (is_empty_text prefix) (codes " xmlns") (codes " xmlns:" ++ prefix)) ≡ true
unfolding is_empty_text
declared_clean [] p = declaring_clean.0
declared_clean (c ∷ cs) p = clean_join (codes " xmlns:") (c ∷ cs) declaring_clean.1 (name_clean (c ∷ cs) p)

declaration_clean : (b : Binding) → is_spelled_binding b ≡ true → are_clean (declaration b) ≡ true
unfolding declaration
declaration_clean b s =
    let parts = and_parts (is_prefix b.prefix) (is_xml_text b.uri) s in
    clean_join (cond (is_empty_text b.prefix) (codes " xmlns") (codes " xmlns:" ++ b.prefix)) (quoted b.uri) (declared_clean b.prefix parts.0) (quoted_clean b.uri parts.1)

declarations_clean : (ds : List Binding) → list_all is_spelled_binding ds ≡ true → are_clean (declarations ds) ≡ true
declarations_clean [] s = refl
declarations_clean (b ∷ ds) s =
    let parts = and_parts (is_spelled_binding b) (list_all is_spelled_binding ds) s in
    clean_join (declaration b) (declarations ds) (declaration_clean b parts.0) (declarations_clean ds parts.1)

attribute_clean : (p : List ℕ) (a : Attribute) → is_spelled_attribute p a ≡ true → are_clean (written_attribute p a) ≡ true
unfolding written_attribute
attribute_clean p a s =
    let x = and_parts (is_prefix p && is_ncname_text a.name.local) (is_xml_text a.value) s in
    let y = and_parts (is_prefix p) (is_ncname_text a.name.local) x.0 in
    clean_join (codes " " ++ qualified p a.name.local) (quoted a.value) (clean_join (codes " ") (qualified p a.name.local) opening_clean.2 (qualified_clean p a.name.local y.0 y.1)) (quoted_clean a.value x.1)

attributes_clean : (ps : List (List ℕ)) (attributes : List Attribute) → are_spelled ps attributes ≡ true → are_clean (written_attributes ps attributes) ≡ true
attributes_clean ps [] s = refl
attributes_clean [] (a ∷ rest) s = refl
attributes_clean (p ∷ ps) (a ∷ rest) s =
    let parts = and_parts (is_spelled_attribute p a) (are_spelled ps rest) s in
    clean_join (written_attribute p a) (written_attributes ps rest) (attribute_clean p a parts.0) (attributes_clean ps rest parts.1)

tag_clean : (name : Name) (h : Head) (attributes : List Attribute) → IsSpelled name h.declared (later_prefixes h.used) attributes → are_clean (start_tag h name attributes) ≡ true
unfolding start_tag
tag_clean name h attributes s =
    let q = qualified name.prefix name.local in
    let ds = declarations h.declared in
    let front = clean_join (codes "<") q fixed_clean.0 (qualified_clean name.prefix name.local s.prefix s.local) in
    let more = clean_join (codes "<" ++ q) ds front (declarations_clean h.declared s.declared) in
    clean_join ((codes "<" ++ q) ++ ds) (written_attributes (later_prefixes h.used) attributes) more (attributes_clean (later_prefixes h.used) attributes s.attributes_are)

rest_clean : (name : Name) (is_empty : Bool) (kids : List ℕ) → is_prefix name.prefix ≡ true → is_ncname_text name.local ≡ true → are_clean kids ≡ true → are_clean (element_rest name is_empty kids) ≡ true
unfolding element_rest
rest_clean name true kids p n k = fixed_clean.5
rest_clean name false kids p n k =
    let q = qualified name.prefix name.local in
    let a = clean_join (codes ">") kids fixed_clean.4 k in
    let b = clean_join (codes ">" ++ kids) (codes "</") a fixed_clean.3 in
    let d = clean_join ((codes ">" ++ kids) ++ codes "</") q b (qualified_clean name.prefix name.local p n) in
    clean_join (((codes ">" ++ kids) ++ codes "</") ++ q) (codes ">") d fixed_clean.4

element_clean : (name : Name) (h : Head) (attributes : List Attribute) (is_empty : Bool) (kids : List ℕ) → IsSpelled name h.declared (later_prefixes h.used) attributes → are_clean kids ≡ true → are_clean (element (start_tag h name attributes) name is_empty kids) ≡ true
element_clean name h attributes is_empty kids s k =
    clean_join (start_tag h name attributes) (element_rest name is_empty kids) (tag_clean name h attributes s) (rest_clean name is_empty kids s.prefix s.local k)

-- comments and instructions

comment_clean : (t : List ℕ) → is_sound_comment t ≡ true → has_return t ≡ false → are_clean (written_comment t) ≡ true
unfolding written_comment
comment_clean t s n =
    clean_join (codes "<!--" ++ t) (codes "-->") (clean_join (codes "<!--") t opening_clean.0 (text_clean t (comment_parts t s).chars n)) fixed_clean.1

data_clean : (t : List ℕ) → is_xml_text t ≡ true → has_return t ≡ false → are_clean (cond (is_empty_text t) [] (codes " " ++ t)) ≡ true
unfolding is_empty_text
data_clean [] x n = refl
data_clean (c ∷ cs) x n = clean_join (codes " ") (c ∷ cs) opening_clean.2 (text_clean (c ∷ cs) x n)

pi_clean : (target t : List ℕ) → is_sound_pi target t ≡ true → has_return t ≡ false → are_clean (written_pi target t) ≡ true
unfolding written_pi
pi_clean target t s n =
    let i = instruction_parts target t s in
    let front = clean_join (codes "<?") target opening_clean.1 (name_clean target i.name) in
    let more = clean_join (codes "<?" ++ target) (cond (is_empty_text t) [] (codes " " ++ t)) front (data_clean t i.chars n) in
    clean_join ((codes "<?" ++ target) ++ cond (is_empty_text t) [] (codes " " ++ t)) (codes "?>") more fixed_clean.2

-- forests

pub forest_clean : (f : Forest) (k : ℕ) (ds : List Binding) (after : Bool) → Allows k ds f → are_sound_behind after f ≡ true → keep_returns f ≡ true → are_clean (written_forest (writing ds) f) ≡ true
forest_clean end k ds after all s n = refl
forest_clean (doc kids f) k ds after all s n = absurd (cc)
forest_clean (elem name attributes kids f) k ds after all s n =
    let h = head_of (writing ds) name attributes in
    let i = element_parts after name attributes kids f s in
    let o = opens ds name attributes (element_ready k ds name attributes kids f all i) in
    let returns = and_parts (keep_returns kids) (keep_returns f) n in
    let P : List Binding → Type 0 = λ scope. are_clean (written_forest scope kids) ≡ true in
    let inner = subst P (sym o.scope) (forest_clean kids (suc k) (ds ++ h.declared) false (kids_allowed k ds name attributes kids f all o) i.kids_sound returns.0) in
    clean_join (element (start_tag h name attributes) name (is_end kids) (written_forest h.scope kids)) (written_forest (writing ds) f)
    (element_clean name h attributes (is_end kids) (written_forest h.scope kids) o.spelled inner)
    (forest_clean f k ds false (rest_allowed k ds name attributes kids f all) i.rest_sound returns.1)
forest_clean (text t f) k ds after all s n =
    let parts = text_parts after t f s in
    clean_join (escaped_text t) (written_forest (writing ds) f) (escaped_text_clean t parts.2) (forest_clean f k ds true (less k ds (text t f) f all refl refl refl) parts.3 n)
forest_clean (comment t f) k ds after all s n =
    let parts = and_parts (is_sound_comment t) (are_sound_behind false f) s in
    let returns = and_parts (not (has_return t)) (keep_returns f) n in
    clean_join (written_comment t) (written_forest (writing ds) f) (comment_clean t parts.0 (not-true (has_return t) returns.0)) (forest_clean f k ds false (less k ds (comment t f) f all refl refl refl) parts.1 returns.1)
forest_clean (pi target t f) k ds after all s n =
    let parts = and_parts (is_sound_pi target t) (are_sound_behind false f) s in
    let returns = and_parts (not (has_return t)) (keep_returns f) n in
    clean_join (written_pi target t) (written_forest (writing ds) f) (pi_clean target t parts.0 (not-true (has_return t) returns.0)) (forest_clean f k ds false (less k ds (pi target t f) f all refl refl refl) parts.1 returns.1)
forest_clean (attr name t f) k ds after all s n = absurd (cc)
