-- The values of all attributes of a document have no more characters together than its text.
use Rattle.std.proofs.Common.{◌≡◌, ℕ, ◌+◌, ◌≤◌, List, [], ◌∷◌, ◌++◌, length, refl, arith, subst, Bool, true, false, cond, Option, Some, None, length-append}
use Rattle.std.proofs.lemmas.Option.{none-some, same_Some}
use Rattle.xt_names.specs.declared.names.Name.{Name}
use Rattle.xt_names.specs.declared.names.Binding.{Binding}
use Rattle.xt_tree.specs.declared.attributes.Attribute.{Attribute}
use Rattle.xt_tree.specs.declared.trees.Tree.{Tree}
use Rattle.xt_tree.specs.declared.trees.Tree.TheVariants.{Doc, Elem, Text, Comment, Pi, Attr}
use Rattle.xt_tree.specs.Forest.{Forest}
use Rattle.xt_tree.specs.TreeView.{put, forest_of}
use Rattle.xt_tree.specs.Sound.{names_differ}
use Rattle.doc_grammar.specs.Characters.{as_value}
use Rattle.doc_grammar.specs.RawNames.{RawAttribute, RawTag}
use Rattle.doc_grammar.specs.Scopes.{declared_by, declarations, are_declarations, element_name, attribute_name, with_value, unless_declared, one_named, both_named, named_attributes, Opened, opened_with, opened}
use Rattle.doc_grammar.specs.Lexemes.{Misc}
use Rattle.doc_grammar.specs.Lexemes as lexemes
use Rattle.doc_grammar.specs.Document.{Valued, Attributes, Spaced, text_nodes, Element, Content, Level, Top, IsDocument}
use Rattle.doc_grammar.specs.Document as doc
use Rattle.doc_grammar.specs.Amounts.{value_characters, values_in, value_size}
use Rattle.doc_grammar.proofs.Sizes.{qname_size, equals_size, reference_size, section_size, misc_size, form_size, end_size}
use Rattle.doc_grammar.proofs.SoundDocuments.{text_size}

-- attributes as they are written

written_values : List RawAttribute → ℕ
written_values [] = 0
written_values (a ∷ more) = length a.value + written_values more

written-append : (xs ys : List RawAttribute)
    → written_values (xs ++ ys) ≡ written_values xs + written_values ys
unfolding written_values
written-append [] ys = omega arith
written-append (a ∷ more) ys = let low = written-append more ys in omega arith

value_length : {quote : ℕ} {read ts value rest : List ℕ} → Valued quote read ts value rest
    → length value + length rest ≤ length read + length ts
value_length {read = read} (doc.more {c = c} p v) =
    let low = value_length v in let more = length-append read (as_value c ∷ []) in omega arith
value_length {read = read} (doc.refers {v = v} r u) =
    let low = value_length u in let few =
    reference_size r in let more = length-append read (v ∷ []) in omega arith
value_length doc.whole = omega arith

mutual
  unfolding written_values

  tag_values : {t whole : RawTag} {ts rest : List ℕ} → Attributes t ts whole rest
      → written_values whole.attributes + length rest ≤ written_values t.attributes + length ts
  tag_values (doc.none e) = omega arith
  tag_values (doc.space s a) = let low = spaced_values a in omega arith

  spaced_values : {t whole : RawTag} {ts rest : List ℕ} → Spaced t ts whole rest
      → written_values whole.attributes + length rest ≤ written_values t.attributes + length ts
  spaced_values (doc.no_more e) = omega arith
  spaced_values (doc.again s a) = let low = spaced_values a in omega arith
  spaced_values {t = t} (doc.attribute {name = name} {value = value} d e q v a) =
      let x = qname_size d in
      let y = equals_size e in
      let z = value_length v in
      let low = tag_values a in
      let more = written-append t.attributes (record { name = name; value = value } ∷ []) in
      omega arith

-- attributes with their names

values-append : (xs ys : List Attribute)
    → value_characters (xs ++ ys) ≡ value_characters xs + value_characters ys
values-append [] ys = omega arith
values-append (a ∷ more) ys = let low = values-append more ys in omega arith

one_value : (scope : List Binding) (a : RawAttribute) (named : List Attribute)
    → one_named scope a ≡ Some named → value_characters named ≤ length a.value
one_value scope a named e = go (declared_by a.name) (attribute_name scope a.name) e where
  go : (p : Option (List ℕ)) (o : Option Name)
      → unless_declared p (with_value a.value o) ≡ Some named
      → value_characters named ≤ length a.value
  go None None d = absurd (none-some _ d)
  go None (Some name) d =
      let P : List Attribute → Type 0 =
      λ x. value_characters x ≤ length a.value in subst P (same_Some _ _ d) (omega arith)
  go (Some prefix) o d =
      let P : List Attribute → Type 0 =
      λ x. value_characters x ≤ length a.value in subst P (same_Some _ _ d) (omega arith)

named_values : (scope : List Binding) (raw : List RawAttribute) (named : List Attribute)
    → named_attributes scope raw ≡ Some named → value_characters named ≤ written_values raw
unfolding named_attributes written_values
named_values scope [] named e =
    let P : List Attribute → Type 0 =
    λ x. value_characters x ≤ 0 in subst P (same_Some _ _ e) (omega arith)
named_values scope (a ∷ more) named e =
    go (one_named scope a) refl (named_attributes scope more) refl e
    (λ x d. named_values scope more x d)
  where
    go : (o : Option (List Attribute)) → one_named scope a ≡ o → (m : Option (List Attribute))
        → named_attributes scope more ≡ m → both_named o m ≡ Some named
        →
        ((x : List Attribute) → named_attributes scope more ≡ Some x
        → value_characters x ≤ written_values more)
        → value_characters named ≤ length a.value + written_values more
    go None p m q d again = absurd (none-some _ d)
    go (Some front) p None q d again = absurd (none-some _ d)
    go (Some front) p (Some rest) q d again =
        let P : List Attribute → Type 0 =
        λ x. value_characters x ≤ length a.value + written_values more in
        let x = one_value scope a front p in
        let y = again rest q in
        let sum = values-append front rest in subst P (same_Some _ _ d) (omega arith)

opened_values : (scope : List Binding) (t : RawTag) (o : Opened) → opened scope t ≡ Some o
    → value_characters o.attributes ≤ written_values t.attributes
unfolding opened
opened_values scope t o e = go (are_declarations (declarations t.attributes)) e
  where
    whole : (name : Name) (attributes : List Attribute)
        → named_attributes (scope ++ declarations t.attributes) t.attributes ≡ Some attributes
        → (q : Bool)
        → cond q
        (Some (record {
          name =
              name;
          attributes = attributes;
          scope = scope ++ declarations t.attributes;
        })) None
        ≡ Some o
        → value_characters o.attributes ≤ written_values t.attributes
    whole name attributes g true d =
        let P : Opened → Type 0 =
        λ x. value_characters x.attributes ≤ written_values t.attributes in
        subst P (same_Some _ _ d)
        (named_values (scope ++ declarations t.attributes) t.attributes attributes g)
    whole name attributes g false d = absurd (none-some _ d)

    parts : (name : Option Name) (attributes : Option (List Attribute))
        → named_attributes (scope ++ declarations t.attributes) t.attributes ≡ attributes
        → opened_with (scope ++ declarations t.attributes) name attributes ≡ Some o
        → value_characters o.attributes ≤ written_values t.attributes
    parts None attributes g d = absurd (none-some _ d)
    parts (Some name) None g d = absurd (none-some _ d)
    parts (Some name) (Some attributes) g d = whole name attributes g (names_differ attributes) d

    go : (q : Bool)
        → cond q
        (opened_with (scope ++ declarations t.attributes)
        (element_name (scope ++ declarations t.attributes) t.name)
        (named_attributes (scope ++ declarations t.attributes) t.attributes)) None ≡ Some o
        → value_characters o.attributes ≤ written_values t.attributes
    go true d = parts (element_name (scope ++ declarations t.attributes) t.name)
        (named_attributes (scope ++ declarations t.attributes) t.attributes) refl d
    go false d = absurd (none-some _ d)

-- trees

values-put : (t : Tree) (f : Forest) → values_in (put t f) ≡ value_size t + values_in f
values-put (Doc kids) f = omega arith
values-put (Elem name attributes kids) f = omega arith
values-put (Text t) f = omega arith
values-put (Comment t) f = omega arith
values-put (Pi target t) f = omega arith
values-put (Attr name t) f = omega arith

forest_values : (ts us : List Tree)
    → values_in (forest_of (ts ++ us)) ≡ values_in (forest_of ts) + values_in (forest_of us)
forest_values [] us = omega arith
forest_values (t ∷ ts) us =
    let more = forest_values ts us in
    let a = values-put t (forest_of (ts ++ us)) in
    let b = values-put t (forest_of ts) in omega arith

text_values : (text : List ℕ) → values_in (forest_of (text_nodes text)) ≡ 0
text_values [] = refl
text_values (c ∷ cs) = refl

kids_values : (text : List ℕ) (n : Tree) (kids : List Tree)
    → values_in (forest_of (text_nodes text ++ n ∷ kids)) ≡ value_size n + values_in
    (forest_of kids)
kids_values text n kids =
    let a = forest_values (text_nodes text) (n ∷ kids) in
    let b = text_values text in
    let c = values-put n (forest_of kids) in omega arith

misc_values : {ts rest : List ℕ} {n : Tree} → Misc ts n rest → value_size n ≡ 0
misc_values (lexemes.comment t) = refl
misc_values (lexemes.instruction i) = refl

mutual
  unfolding written_values

  element_values : {k : ℕ} {scope : List Binding} {ts rest : List ℕ} {n : Tree}
      → Element opened k scope ts n rest → value_size n + length rest ≤ length ts
  element_values {scope = scope} (doc.empty {t = t} {o = o} low d a r) =
      let x = qname_size d in
      let y = tag_values a in
      let z = opened_values scope t o r in omega arith
  element_values {scope = scope} (doc.full {t = t} {o = o} low d a r c e) =
      let x = qname_size d in
      let y = tag_values a in
      let z = opened_values scope t o r in
      let inside = content_values c in
      let end = end_size e in omega arith

  content_values : {k n : ℕ} {scope : List Binding} {text ts rest : List ℕ} {kids : List Tree}
      → Content opened k scope n text ts kids rest
      → values_in (forest_of kids) + length rest ≤ length ts
  content_values {text = text} doc.at_end_tag = let none = text_values text in omega arith
  content_values (doc.says p c) = let more = content_values c in omega arith
  content_values (doc.refers r c) =
      let more = content_values c in let low = reference_size r in omega arith
  content_values (doc.quotes s c) =
      let more = content_values c in let low = section_size s in omega arith
  content_values {text = text} (doc.child {tree = n} {kids = kids} e c) =
      let a = element_values e in
      let b = content_values c in
      let sum = kids_values text n kids in omega arith
  content_values {text = text} (doc.aside {tree = n} {kids = kids} m c) =
      let a = misc_values m in
      let b = content_values c in
      let low = misc_size m in
      let sum = kids_values text n kids in omega arith

document_values : {l : Level} {kids : List Tree} {ts : List ℕ} {w : Tree} → Top opened l kids ts w
    → value_size w ≤ values_in (forest_of kids) + length ts
document_values (doc.declares f k) =
    let more = document_values k in let low = form_size f in omega arith
document_values (doc.space s k) = let more = document_values k in omega arith
document_values {kids = kids} (doc.aside {tree = n} m k) =
    let a = misc_values m in
    let b = document_values k in
    let low = misc_size m in
    let sum = forest_values kids (n ∷ []) in
    let one = values-put n (forest_of []) in omega arith
document_values (doc.types m f k) =
    let more = document_values k in let low = form_size f in omega arith
document_values {kids = kids} (doc.root {tree = n} m e k) =
    let a = element_values e in
    let b = document_values k in
    let sum = forest_values kids (n ∷ []) in
    let one = values-put n (forest_of []) in omega arith
document_values doc.ends = omega arith

pub values_in_bytes : (bytes : List ℕ) (t : Tree) → IsDocument bytes t → value_size t ≤ length bytes
values_in_bytes bytes t d =
    let text = text_size bytes in
    let low = document_values d.1 in omega arith
