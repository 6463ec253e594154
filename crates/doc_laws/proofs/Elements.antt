-- Written elements and their content are read back.
use Rattle.std.proofs.Common.{◌≡◌, ℕ, suc, ◌+◌, ◌^◌, ◌<◌, ◌≤◌, List, [], ◌∷◌, ◌++◌, length, Bool, true, false, not, ◌&&◌, Some, refl, sym, ap, subst, ◌∙◌, codes, append_assoc}
use Rattle.std.specs.List.{list_all}
use Rattle.std.proofs.lemmas.Bool.{and_parts, not-true}
use Rattle.xt_names.specs.Allowed.{xml_uri}
use Rattle.xt_names.specs.Classes.{is_xml_text}
use Rattle.xt_names.specs.declared.names.Binding.{Binding}
use Rattle.xt_names.specs.declared.names.Name.{Name}
use Rattle.xt_tree.specs.declared.attributes.Attribute.{Attribute}
use Rattle.xt_tree.specs.declared.trees.Tree.{Tree}
use Rattle.xt_tree.specs.declared.trees.Tree.TheVariants.{Elem}
use Rattle.xt_tree.specs.Forest.{Forest, end, doc, elem, text, comment, pi, attr}
use Rattle.xt_tree.specs.Sound.{is_sound_name, is_named_xmlns, is_sound_attribute, names_differ, are_sound_attributes}
use Rattle.xt_tree.specs.TreeView.{forest_of, trees}
use Rattle.doc_grammar.specs.Document.{limit, Content, Element, EndTag, element_of, text_nodes}
use Rattle.doc_grammar.specs.Document as grammar
use Rattle.doc_grammar.specs.RawNames.{written_name}
use Rattle.doc_grammar.specs.Scopes.{are_declarations, prefixes_differ, is_binding, opened}
use Rattle.doc_grammar.proofs.Completions.{end_spelled}
use Rattle.doc_writer.specs.Heads.{Head, head_of}
use Rattle.doc_writer.specs.Readable.{renamed_attributes, as_written_forest}
use Rattle.name_scopes.specs.Scopes.{bound_uri}
use Rattle.doc_writer.specs.Written.{qualified, later_prefixes, start_tag, is_end, element_rest, element, written_forest}
use Rattle.doc_laws.proofs.Uris.{has_uri_text}
use Rattle.doc_laws.proofs.Names.{Stops, raw_name, raw_written}
use Rattle.doc_laws.proofs.Tags.{are_spelled, tag_of, IsSpelled, IsTag, tag_back, slash_stops, close_stops}
use Rattle.doc_laws.proofs.Openings.{opened_back}
use Rattle.doc_laws.proofs.Heads.{allowed, local_name, element_prefix}
use Rattle.doc_laws.proofs.Suits.{AreSuited, AreSoundNames, IsHead, head_is}
use Rattle.doc_laws.proofs.Lookups.{writing, reading, element_named_back, all_fit}

-- attributes that are sound

record IsSoundAttribute (a : Attribute) : Type 0 where
  name : is_sound_name a.name ≡ true
  not_named : is_named_xmlns a.name ≡ false
  value : is_xml_text a.value ≡ true

attribute_parts : (a : Attribute) → is_sound_attribute a.name a.value ≡ true → IsSoundAttribute a
unfolding is_sound_attribute
attribute_parts a s =
    let x = and_parts (is_sound_name a.name && not (is_named_xmlns a.name)) (is_xml_text a.value) s in
    let y = and_parts (is_sound_name a.name) (not (is_named_xmlns a.name)) x.0 in
    record { name = y.0; not_named = not-true (is_named_xmlns a.name) y.1; value = x.1 }

abbrev are_sound_all : List Attribute → Bool
are_sound_all attributes = list_all (λ (a : Attribute). is_sound_attribute a.name a.value) attributes

sound_names : (attributes : List Attribute) → are_sound_all attributes ≡ true → list_all (λ (a : Attribute). has_uri_text a.name) attributes ≡ true → AreSoundNames attributes
sound_names [] s u = tt
sound_names (a ∷ rest) s u =
    let x = and_parts (is_sound_attribute a.name a.value) (are_sound_all rest) s in
    let y = and_parts (has_uri_text a.name) (list_all (λ (b : Attribute). has_uri_text b.name) rest) u in
    let parts = attribute_parts a x.0 in
    (record { allowed = allowed a.name parts.name; not_named = parts.not_named; text = y.0 }, sound_names rest x.1 y.1)

spelled_attributes : (scope : List Binding) (ps : List (List ℕ)) (attributes : List Attribute) → AreSuited scope ps attributes → are_sound_all attributes ≡ true → are_spelled ps attributes ≡ true
spelled_attributes scope ps [] f s = refl
spelled_attributes scope [] (a ∷ rest) f s = absurd f
spelled_attributes scope (p ∷ ps) (a ∷ rest) f s =
    let x = and_parts (is_sound_attribute a.name a.value) (are_sound_all rest) s in
    let parts = attribute_parts a x.0 in
    let more = spelled_attributes scope ps rest f.1 x.1 in
    rw (f.0.prefix, local_name a.name parts.name, parts.value, more) refl

-- an element that may be written in a scope with these declarations
pub record IsReady (ds : List Binding) (name : Name) (attributes : List Attribute) : Type 0 where
  pub xml : bound_uri (writing ds) (codes "xml") ≡ Some xml_uri
  pub name_sound : is_sound_name name ≡ true
  pub attributes_sound : are_sound_attributes attributes ≡ true
  pub uri : has_uri_text name ≡ true
  pub uris : list_all (λ (a : Attribute). has_uri_text a.name) attributes ≡ true
  pub small : length (writing ds) + 1 + length attributes < 2 ^ 64

-- what its start tag opens, and how that is written
pub record Opens (ds : List Binding) (name : Name) (attributes : List Attribute) (h : Head) : Type 0 where
  pub tag : (rest : List ℕ) → Stops rest → grammar.AtEnd rest → IsTag name h.declared (later_prefixes h.used) attributes (start_tag h name attributes ++ rest) rest
  pub gives : opened (reading ds) (tag_of name h.declared (later_prefixes h.used) attributes)
      ≡ Some (record { name = name; attributes = renamed_attributes (later_prefixes h.used) attributes; scope = reading (ds ++ h.declared) })
  pub spelled : IsSpelled name h.declared (later_prefixes h.used) attributes
  pub scope : h.scope ≡ writing (ds ++ h.declared)
  pub xml : bound_uri (writing (ds ++ h.declared)) (codes "xml") ≡ Some xml_uri
  pub low : length (writing (ds ++ h.declared)) ≤ length (writing ds) + 1 + length attributes

declares_well : (ds : List Binding) → list_all is_binding ds ≡ true → prefixes_differ ds ≡ true → are_declarations ds ≡ true
unfolding are_declarations
declares_well ds a b = rw (a, b) refl

all_sound : (attributes : List Attribute) → are_sound_attributes attributes ≡ true → (are_sound_all attributes ≡ true) × (names_differ attributes ≡ true)
unfolding are_sound_attributes
all_sound attributes s = and_parts (are_sound_all attributes) (names_differ attributes) s

head_opens : (ds : List Binding) (name : Name) (attributes : List Attribute) (h : Head) → IsReady ds name attributes → IsHead (writing ds) name attributes h → Opens ds name attributes h
head_opens ds name attributes h r k =
    let ps = later_prefixes h.used in
    let sound = all_sound attributes r.attributes_sound in
    let P : List Binding → Type 0 = λ x. AreSuited x ps attributes in
    let Q : List Binding → Type 0 = λ x. bound_uri x name.prefix ≡ Some name.uri in
    let R : List Binding → Type 0 = λ x. bound_uri x (codes "xml") ≡ Some xml_uri in
    let S : List Binding → Type 0 = λ x. length x ≤ length (writing ds) + 1 + length attributes in
    let suited = subst P k.settled.scope k.suited in
    let bound = subst Q k.settled.scope k.bound in
    let spelled : IsSpelled name h.declared ps attributes = record {
      prefix = element_prefix name r.name_sound;
      local = local_name name r.name_sound;
      declared = k.settled.spelled;
      attributes_are = spelled_attributes h.scope ps attributes k.suited sound.0;
    } in
    record {
      tag = λ rest s e. tag_back name h attributes rest spelled s e;
      gives = opened_back (reading ds) h.declared name ps attributes (declares_well h.declared k.settled.bindings k.settled.differ)
          (element_named_back (ds ++ h.declared) name bound) (all_fit (ds ++ h.declared) ps attributes suited) sound.1;
      spelled = spelled;
      scope = k.settled.scope;
      xml = subst R k.settled.scope k.settled.xml;
      low = subst S k.settled.scope k.small;
    }

pub opens : (ds : List Binding) (name : Name) (attributes : List Attribute) → IsReady ds name attributes → Opens ds name attributes (head_of (writing ds) name attributes)
opens ds name attributes r =
    let sound = all_sound attributes r.attributes_sound in
    head_opens ds name attributes (head_of (writing ds) name attributes) r
    (head_is (writing ds) name attributes r.xml (allowed name r.name_sound) r.uri (sound_names attributes sound.0 r.uris) r.small)

-- forests and their trees
pub forest_same : (f : Forest) → forest_of (trees f) ≡ f
forest_same end = refl
forest_same (doc kids rest) = ap (λ x. doc kids x) (forest_same rest)
forest_same (elem name attributes kids rest) = ap (λ x. elem name attributes kids x) (forest_same rest)
forest_same (text t rest) = ap (λ x. text t x) (forest_same rest)
forest_same (comment t rest) = ap (λ x. comment t x) (forest_same rest)
forest_same (pi target t rest) = ap (λ x. pi target t x) (forest_same rest)
forest_same (attr name t rest) = ap (λ x. attr name t x) (forest_same rest)

-- one element

-- the children of an element are read back, up to its end tag
abbrev pub KidsBack : ℕ → List Binding → Forest → Type 0
KidsBack k ds kids =
    (rest : List ℕ) → Content opened k (reading ds) 0 [] (written_forest (writing ds) kids ++ 60 ∷ 47 ∷ rest) (trees (as_written_forest (writing ds) kids)) (60 ∷ 47 ∷ rest)

end_back : (name : Name) (rest : List ℕ) → EndTag (written_name (raw_name name.prefix name.local)) (qualified name.prefix name.local ++ 62 ∷ rest) rest
end_back name rest = rw (raw_written name.prefix name.local) (end_spelled (qualified name.prefix name.local) rest)

rest_full : (name : Name) (kids rest : List ℕ) → element_rest name false kids ++ rest ≡ 62 ∷ (kids ++ 60 ∷ 47 ∷ (qualified name.prefix name.local ++ 62 ∷ rest))
unfolding element_rest
rest_full name kids rest =
    let q = qualified name.prefix name.local in
    append_assoc (((62 ∷ kids) ++ (60 ∷ 47 ∷ [])) ++ q) (62 ∷ []) rest ∙ (append_assoc ((62 ∷ kids) ++ (60 ∷ 47 ∷ [])) q (62 ∷ rest) ∙ append_assoc (62 ∷ kids) (60 ∷ 47 ∷ []) (q ++ 62 ∷ rest))

rest_empty : (name : Name) (kids rest : List ℕ) → element_rest name true kids ++ rest ≡ 47 ∷ 62 ∷ rest
unfolding element_rest
rest_empty name kids rest = refl

module _ (k : ℕ) (ds : List Binding) (name : Name) (attributes : List Attribute) (h : Head) (o : Opens ds name attributes h) where
  -- the element, with these children
  abbrev pub Reads : List ℕ → Forest → List ℕ → Type 0
  Reads written kids rest = Element opened k (reading ds) written (Elem name (renamed_attributes (later_prefixes h.used) attributes) kids) rest

  full_back : (kids : List Tree) (inner rest : List ℕ) → k < limit
      → Content opened (suc k) (reading (ds ++ h.declared)) 0 [] (inner ++ 60 ∷ 47 ∷ (qualified name.prefix name.local ++ 62 ∷ rest)) kids (60 ∷ 47 ∷ (qualified name.prefix name.local ++ 62 ∷ rest))
      → Reads (start_tag h name attributes ++ (62 ∷ (inner ++ 60 ∷ 47 ∷ (qualified name.prefix name.local ++ 62 ∷ rest)))) (forest_of kids) rest
  full_back kids inner rest low c =
      let left = inner ++ 60 ∷ 47 ∷ (qualified name.prefix name.local ++ 62 ∷ rest) in
      let t = o.tag (62 ∷ left) (close_stops left) grammar.close in
      let P : List ℕ → Type 0 = λ x. Reads x (forest_of kids) rest in
      subst P (sym t.begins) (grammar.full low t.named t.reads o.gives c (end_back name rest))

  empty_back : (rest : List ℕ) → k < limit → Reads (start_tag h name attributes ++ (47 ∷ 62 ∷ rest)) end rest
  empty_back rest low =
      let t = o.tag (47 ∷ 62 ∷ rest) (slash_stops (62 ∷ rest)) grammar.slash in
      let P : List ℕ → Type 0 = λ x. Reads x end rest in
      subst P (sym t.begins) (grammar.empty low t.named t.reads o.gives)

  kids_back : (kids : Forest) (rest : List ℕ) → k < limit → KidsBack (suc k) (ds ++ h.declared) kids
      → Reads (start_tag h name attributes ++ (62 ∷ (written_forest h.scope kids ++ 60 ∷ 47 ∷ (qualified name.prefix name.local ++ 62 ∷ rest)))) (as_written_forest h.scope kids) rest
  kids_back kids rest low c =
      let P : Forest → Type 0 = λ f. Reads (start_tag h name attributes ++ (62 ∷ (written_forest h.scope kids ++ 60 ∷ 47 ∷ (qualified name.prefix name.local ++ 62 ∷ rest)))) f rest in
      let Q : List Binding → Type 0 = λ s. Content opened (suc k) (reading (ds ++ h.declared)) 0 [] (written_forest s kids ++ 60 ∷ 47 ∷ (qualified name.prefix name.local ++ 62 ∷ rest)) (trees (as_written_forest s kids)) (60 ∷ 47 ∷ (qualified name.prefix name.local ++ 62 ∷ rest)) in
      subst P (forest_same (as_written_forest h.scope kids))
      (full_back (trees (as_written_forest h.scope kids)) (written_forest h.scope kids) rest low (subst Q (sym o.scope) (c (qualified name.prefix name.local ++ 62 ∷ rest))))

  -- an element with children, or with none
  full_element : (kids : Forest) (rest : List ℕ) → k < limit → KidsBack (suc k) (ds ++ h.declared) kids
      → Reads (element (start_tag h name attributes) name false (written_forest h.scope kids) ++ rest) (as_written_forest h.scope kids) rest
  full_element kids rest low c =
      let P : List ℕ → Type 0 = λ x. Reads x (as_written_forest h.scope kids) rest in
      let e = append_assoc (start_tag h name attributes) (element_rest name false (written_forest h.scope kids)) rest ∙ ap (λ x. start_tag h name attributes ++ x) (rest_full name (written_forest h.scope kids) rest) in
      subst P (sym e) (kids_back kids rest low c)

  empty_element : (inner rest : List ℕ) → k < limit → Reads (element (start_tag h name attributes) name true inner ++ rest) end rest
  empty_element inner rest low =
      let P : List ℕ → Type 0 = λ x. Reads x end rest in
      let e = append_assoc (start_tag h name attributes) (element_rest name true inner) rest ∙ ap (λ x. start_tag h name attributes ++ x) (rest_empty name inner rest) in
      subst P (sym e) (empty_back rest low)

  pub element_back : (kids : Forest) (rest : List ℕ) → k < limit → KidsBack (suc k) (ds ++ h.declared) kids
      → Reads (element (start_tag h name attributes) name (is_end kids) (written_forest h.scope kids) ++ rest) (as_written_forest h.scope kids) rest
  element_back end rest low c = empty_element [] rest low
  element_back (doc kids more) rest low c = full_element (doc kids more) rest low c
  element_back (elem n a kids more) rest low c = full_element (elem n a kids more) rest low c
  element_back (text t more) rest low c = full_element (text t more) rest low c
  element_back (comment t more) rest low c = full_element (comment t more) rest low c
  element_back (pi target t more) rest low c = full_element (pi target t more) rest low c
  element_back (attr n t more) rest low c = full_element (attr n t more) rest low c
