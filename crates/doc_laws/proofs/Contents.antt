-- Written content is read back.
use Rattle.std.proofs.Common.{◌≡◌, ℕ, suc, ◌+◌, ◌^◌, ◌<◌, ◌≤◌, List, [], ◌∷◌, ◌++◌, length, Bool, true, false, not, ◌&&◌, Some, refl, sym, subst, ◌∙◌, arith, codes, append_assoc, append-nil}
use Rattle.std.specs.List.{list_all}
use Rattle.std.proofs.lemmas.Bool.{and_parts, not-true}
use Rattle.xt_names.specs.Allowed.{is_empty_text, xml_uri}
use Rattle.xt_names.specs.Classes.{is_xml_text}
use Rattle.xt_names.specs.declared.names.Binding.{Binding}
use Rattle.xt_names.specs.declared.names.Name.{Name}
use Rattle.xt_tree.specs.declared.attributes.Attribute.{Attribute}
use Rattle.xt_tree.specs.declared.trees.Tree.{Tree}
use Rattle.xt_tree.specs.declared.trees.Tree.TheVariants.{Elem, Text, Comment, Pi}
use Rattle.xt_tree.specs.Forest.{Forest, end, doc, elem, text, comment, pi, attr, forest_size, forest_height}
use Rattle.xt_tree.specs.Sound.{is_sound_name, are_sound_attributes, is_sound_comment, is_sound_pi, are_sound_behind}
use Rattle.xt_tree.specs.TreeView.{trees}
use Rattle.doc_grammar.specs.Document.{limit, Content, Element, text_nodes}
use Rattle.doc_grammar.specs.Document as grammar
use Rattle.doc_grammar.specs.Lexemes.{Misc}
use Rattle.doc_grammar.specs.Scopes.{opened}
use Rattle.doc_writer.specs.Escapes.{escaped_text}
use Rattle.doc_writer.specs.Heads.{head_of}
use Rattle.doc_writer.specs.Readable.{renamed_attributes, as_written_forest}
use Rattle.name_scopes.specs.Scopes.{bound_uri}
use Rattle.doc_writer.specs.Written.{later_prefixes, start_tag, is_end, element, written_comment, written_pi, written_forest}
use Rattle.doc_laws.proofs.Uris.{has_uri_text, keep_uris}
use Rattle.doc_laws.proofs.Texts.{text_back}
use Rattle.doc_laws.proofs.Lookups.{writing, reading}
use Rattle.doc_laws.proofs.Markup.{comment_back, pi_back}
use Rattle.doc_laws.proofs.Elements.{IsReady, Opens, opens, KidsBack, element_back}

-- trees that may be written inside of k open elements, in a scope with these declarations
pub record Allows (k : ℕ) (ds : List Binding) (f : Forest) : Type 0 where
  pub xml : bound_uri (writing ds) (codes "xml") ≡ Some xml_uri
  pub deep : k + forest_height f ≤ limit
  pub small : length (writing ds) + forest_size f < 2 ^ 64
  pub uris : keep_uris f ≡ true

-- the parts of what is known of an element and those after it
pub record IsElement (name : Name) (attributes : List Attribute) (kids rest : Forest) : Type 0 where
  pub name_sound : is_sound_name name ≡ true
  pub attributes_sound : are_sound_attributes attributes ≡ true
  pub kids_sound : are_sound_behind false kids ≡ true
  pub rest_sound : are_sound_behind false rest ≡ true

pub element_parts : (after : Bool) (name : Name) (attributes : List Attribute) (kids rest : Forest) → are_sound_behind after (elem name attributes kids rest) ≡ true → IsElement name attributes kids rest
element_parts after name attributes kids rest s =
    let a = and_parts ((is_sound_name name && are_sound_attributes attributes) && are_sound_behind false kids) (are_sound_behind false rest) s in
    let b = and_parts (is_sound_name name && are_sound_attributes attributes) (are_sound_behind false kids) a.0 in
    let c = and_parts (is_sound_name name) (are_sound_attributes attributes) b.0 in
    record { name_sound = c.0; attributes_sound = c.1; kids_sound = b.1; rest_sound = a.1 }

record KeepUris (name : Name) (attributes : List Attribute) (kids rest : Forest) : Type 0 where
  uri : has_uri_text name ≡ true
  uris : list_all (λ (a : Attribute). has_uri_text a.name) attributes ≡ true
  inner : keep_uris kids ≡ true
  later : keep_uris rest ≡ true

uri_parts : (name : Name) (attributes : List Attribute) (kids rest : Forest) → keep_uris (elem name attributes kids rest) ≡ true → KeepUris name attributes kids rest
uri_parts name attributes kids rest s =
    let all = list_all (λ (a : Attribute). has_uri_text a.name) attributes in
    let a = and_parts ((has_uri_text name && all) && keep_uris kids) (keep_uris rest) s in
    let b = and_parts (has_uri_text name && all) (keep_uris kids) a.0 in
    let c = and_parts (has_uri_text name) all b.0 in
    record { uri = c.0; uris = c.1; inner = b.1; later = a.1 }

module _ (k : ℕ) (ds : List Binding) (name : Name) (attributes : List Attribute) (kids rest : Forest) (all : Allows k ds (elem name attributes kids rest)) where
  pub element_ready : IsElement name attributes kids rest → IsReady ds name attributes
  element_ready i =
      let u = uri_parts name attributes kids rest all.uris in
      let small = all.small in
      record { xml = all.xml; name_sound = i.name_sound; attributes_sound = i.attributes_sound; uri = u.uri; uris = u.uris; small = omega arith }

  pub kids_allowed : Opens ds name attributes (head_of (writing ds) name attributes) → Allows (suc k) (ds ++ (head_of (writing ds) name attributes).declared) kids
  kids_allowed o =
      let u = uri_parts name attributes kids rest all.uris in
      let small = all.small in
      let deep = all.deep in
      let low = o.low in
      record { xml = o.xml; deep = grind arith; small = omega arith; uris = u.inner }

  pub rest_allowed : Allows k ds rest
  rest_allowed =
      let u = uri_parts name attributes kids rest all.uris in
      let small = all.small in
      let deep = all.deep in
      record { xml = all.xml; deep = grind arith; small = omega arith; uris = u.later }

  pub not_deep : k < limit
  not_deep = let deep = all.deep in grind arith

-- after a text or not
abbrev IsClear : Bool → List ℕ → Type 0
IsClear true read = Unit {0}
IsClear false read = read ≡ []

abbrev ContentBack : ℕ → List Binding → ℕ → List ℕ → Forest → List ℕ → Type 0
ContentBack k ds n read f rest =
    Content opened k (reading ds) n read (written_forest (writing ds) f ++ 60 ∷ 47 ∷ rest) (text_nodes read ++ trees (as_written_forest (writing ds) f)) (60 ∷ 47 ∷ rest)

-- a text
text_alone : (t : List ℕ) (more : List Tree) → is_empty_text t ≡ false → text_nodes t ++ more ≡ Text t ∷ more
unfolding is_empty_text
text_alone [] more e = absurd (cc)
text_alone (c ∷ cs) more e = refl

pub text_parts : (after : Bool) (t : List ℕ) (rest : Forest) → are_sound_behind after (text t rest) ≡ true → (after ≡ false) × (is_empty_text t ≡ false) × (is_xml_text t ≡ true) × (are_sound_behind true rest ≡ true)
text_parts after t rest s =
    let a = and_parts ((not after && not (is_empty_text t)) && is_xml_text t) (are_sound_behind true rest) s in
    let b = and_parts (not after && not (is_empty_text t)) (is_xml_text t) a.0 in
    let c = and_parts (not after) (not (is_empty_text t)) b.0 in
    (not-true after c.0, not-true (is_empty_text t) c.1, b.1, a.1)

clear : (after : Bool) (read : List ℕ) → IsClear after read → after ≡ false → read ≡ []
clear true read c e = absurd (cc)
clear false read c e = c

text_content : (k : ℕ) (ds : List Binding) (n : ℕ) (read t : List ℕ) (f : Forest) (rest : List ℕ) → read ≡ [] → is_empty_text t ≡ false → is_xml_text t ≡ true → ((m : ℕ) → ContentBack k ds m t f rest) → ContentBack k ds n read (text t f) rest
text_content k ds n read t f rest e full x go_on =
    let kids = trees (as_written_forest (writing ds) f) in
    let left = written_forest (writing ds) f ++ 60 ∷ 47 ∷ rest in
    let P : List Tree → Type 0 = λ ks. Content opened k (reading ds) n [] (escaped_text t ++ left) ks (60 ∷ 47 ∷ rest) in
    let Q : List ℕ → Type 0 = λ w. Content opened k (reading ds) n [] w (Text t ∷ kids) (60 ∷ 47 ∷ rest) in
    let R : List ℕ → Type 0 = λ r. Content opened k (reading ds) n r ((escaped_text t ++ written_forest (writing ds) f) ++ 60 ∷ 47 ∷ rest) (text_nodes r ++ Text t ∷ kids) (60 ∷ 47 ∷ rest) in
    let back = text_back opened k (reading ds) left (60 ∷ 47 ∷ rest) (text_nodes t ++ kids) n [] t x go_on in
    subst R (sym e) (subst Q (sym (append_assoc (escaped_text t) (written_forest (writing ds) f) (60 ∷ 47 ∷ rest))) (subst P (text_alone t kids full) back))

-- a node that is no text, and then the others
aside_content : (k : ℕ) (ds : List Binding) (n : ℕ) (read written : List ℕ) (node : Tree) (f : Forest) (rest : List ℕ)
    → Misc (written ++ (written_forest (writing ds) f ++ 60 ∷ 47 ∷ rest)) node (written_forest (writing ds) f ++ 60 ∷ 47 ∷ rest) → ContentBack k ds 0 [] f rest
    → Content opened k (reading ds) n read ((written ++ written_forest (writing ds) f) ++ 60 ∷ 47 ∷ rest) (text_nodes read ++ node ∷ trees (as_written_forest (writing ds) f)) (60 ∷ 47 ∷ rest)
aside_content k ds n read written node f rest m go_on =
    let P : List ℕ → Type 0 = λ w. Content opened k (reading ds) n read w (text_nodes read ++ node ∷ trees (as_written_forest (writing ds) f)) (60 ∷ 47 ∷ rest) in
    subst P (sym (append_assoc written (written_forest (writing ds) f) (60 ∷ 47 ∷ rest))) (grammar.aside m go_on)

child_content : (k : ℕ) (ds : List Binding) (n : ℕ) (read written : List ℕ) (node : Tree) (f : Forest) (rest : List ℕ)
    → Element opened k (reading ds) (written ++ (written_forest (writing ds) f ++ 60 ∷ 47 ∷ rest)) node (written_forest (writing ds) f ++ 60 ∷ 47 ∷ rest) → ContentBack k ds 0 [] f rest
    → Content opened k (reading ds) n read ((written ++ written_forest (writing ds) f) ++ 60 ∷ 47 ∷ rest) (text_nodes read ++ node ∷ trees (as_written_forest (writing ds) f)) (60 ∷ 47 ∷ rest)
child_content k ds n read written node f rest m go_on =
    let P : List ℕ → Type 0 = λ w. Content opened k (reading ds) n read w (text_nodes read ++ node ∷ trees (as_written_forest (writing ds) f)) (60 ∷ 47 ∷ rest) in
    subst P (sym (append_assoc written (written_forest (writing ds) f) (60 ∷ 47 ∷ rest))) (grammar.child m go_on)

no_more : (k : ℕ) (ds : List Binding) (n : ℕ) (read rest : List ℕ) → ContentBack k ds n read end rest
no_more k ds n read rest = let P : List Tree → Type 0 = λ ks. Content opened k (reading ds) n read (60 ∷ 47 ∷ rest) ks (60 ∷ 47 ∷ rest) in subst P (sym (append-nil (text_nodes read))) grammar.at_end_tag

pub less : (k : ℕ) (ds : List Binding) (f rest : Forest) → Allows k ds f → forest_height f ≡ forest_height rest → forest_size f ≡ 1 + forest_size rest → keep_uris f ≡ keep_uris rest → Allows k ds rest
less k ds f rest all h s u = let deep = all.deep in let small = all.small in record { xml = all.xml; deep = omega arith; small = omega arith; uris = sym u ∙ all.uris }

pub content_back : (f : Forest) (k : ℕ) (ds : List Binding) (after : Bool) (read : List ℕ) → Allows k ds f → are_sound_behind after f ≡ true → IsClear after read → (n : ℕ) (rest : List ℕ) → ContentBack k ds n read f rest
content_back end k ds after read all s c n rest = no_more k ds n read rest
content_back (doc kids f) k ds after read all s c n rest = absurd (cc)
content_back (elem name attributes kids f) k ds after read all s c n rest =
    let h = head_of (writing ds) name attributes in
    let i = element_parts after name attributes kids f s in
    let o = opens ds name attributes (element_ready k ds name attributes kids f all i) in
    let inner : KidsBack (suc k) (ds ++ h.declared) kids = content_back kids (suc k) (ds ++ h.declared) false [] (kids_allowed k ds name attributes kids f all o) i.kids_sound refl 0 in
    child_content k ds n read (element (start_tag h name attributes) name (is_end kids) (written_forest h.scope kids)) (Elem name (renamed_attributes (later_prefixes h.used) attributes) (as_written_forest h.scope kids)) f rest
    (element_back k ds name attributes h o kids (written_forest (writing ds) f ++ 60 ∷ 47 ∷ rest) (not_deep k ds name attributes kids f all) inner)
    (content_back f k ds false [] (rest_allowed k ds name attributes kids f all) i.rest_sound refl 0 rest)
content_back (text t f) k ds after read all s c n rest =
    let parts = text_parts after t f s in
    text_content k ds n read t f rest (clear after read c parts.0) parts.1 parts.2 (λ m. content_back f k ds true t (less k ds (text t f) f all refl refl refl) parts.3 tt m rest)
content_back (comment t f) k ds after read all s c n rest =
    let parts = and_parts (is_sound_comment t) (are_sound_behind false f) s in
    aside_content k ds n read (written_comment t) (Comment t) f rest (comment_back t (written_forest (writing ds) f ++ 60 ∷ 47 ∷ rest) parts.0)
    (content_back f k ds false [] (less k ds (comment t f) f all refl refl refl) parts.1 refl 0 rest)
content_back (pi target t f) k ds after read all s c n rest =
    let parts = and_parts (is_sound_pi target t) (are_sound_behind false f) s in
    aside_content k ds n read (written_pi target t) (Pi target t) f rest (pi_back target t (written_forest (writing ds) f ++ 60 ∷ 47 ∷ rest) parts.0)
    (content_back f k ds false [] (less k ds (pi target t f) f all refl refl refl) parts.1 refl 0 rest)
content_back (attr name t f) k ds after read all s c n rest = absurd (cc)
