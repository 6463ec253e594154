-- A document has one list of declarations for each element.
use Rattle.std.proofs.Common.{◌≡◌, ℕ, ◌+◌, List, [], ◌∷◌, ◌++◌, length, refl, sym, ap, arith, length-append}
use Rattle.xt_names.specs.declared.names.Binding.{Binding}
use Rattle.xt_tree.specs.declared.trees.Tree.{Tree}
use Rattle.xt_tree.specs.declared.trees.Tree.TheVariants.{Doc, Elem, Text, Comment, Pi, Attr}
use Rattle.xt_tree.specs.Forest.{Forest}
use Rattle.xt_tree.specs.TreeView.{put, forest_of}
use Rattle.doc_grammar.specs.Lexemes.{Misc}
use Rattle.doc_grammar.specs.Lexemes as lexemes
use Rattle.doc_grammar.specs.Document.{Rules, text_nodes, Element, Content, Level, Top}
use Rattle.doc_grammar.specs.Document as doc
use Rattle.doc_grammar.specs.Declarations.{in_element, in_content, in_document, IsDeclared}
use Rattle.doc_grammar.specs.Amounts.{elements_in, element_count}

elements-put : (t : Tree) (f : Forest) → elements_in (put t f) ≡ element_count t + elements_in f
elements-put (Doc kids) f = omega arith
elements-put (Elem name attributes kids) f = omega arith
elements-put (Text t) f = omega arith
elements-put (Comment t) f = omega arith
elements-put (Pi target t) f = omega arith
elements-put (Attr name t) f = omega arith

elements-append : (ts us : List Tree)
    → elements_in (forest_of (ts ++ us)) ≡ elements_in (forest_of ts) + elements_in (forest_of us)
elements-append [] us = omega arith
elements-append (t ∷ ts) us =
    let more = elements-append ts us in
    let a = elements-put t (forest_of (ts ++ us)) in
    let b = elements-put t (forest_of ts) in omega arith

text_elements : (text : List ℕ) → elements_in (forest_of (text_nodes text)) ≡ 0
text_elements [] = refl
text_elements (c ∷ cs) = refl

elements-kids : (text : List ℕ) (n : Tree) (kids : List Tree)
    → elements_in (forest_of (text_nodes text ++ n ∷ kids)) ≡ element_count n + elements_in
    (forest_of kids)
elements-kids text n kids =
    let a = elements-append (text_nodes text) (n ∷ kids) in
    let b = text_elements text in
    let c = elements-put n (forest_of kids) in omega arith

misc_elements : {ts rest : List ℕ} {n : Tree} → Misc ts n rest → element_count n ≡ 0
misc_elements (lexemes.comment t) = refl
misc_elements (lexemes.instruction i) = refl

mutual
  element_lists : {rules : Rules} {k : ℕ} {scope : List Binding} {ts rest : List ℕ} {n : Tree}
      (e : Element rules k scope ts n rest)
      → length (in_element e) ≡ element_count n
  element_lists (doc.empty low d a r) = omega arith
  element_lists (doc.full low d a r c e) = let more = content_lists c in omega arith

  content_lists : {rules : Rules} {k n : ℕ} {scope : List Binding} {text ts rest : List ℕ}
      {kids : List Tree} (c : Content rules k scope n text ts kids rest)
      → length (in_content c) ≡ elements_in (forest_of kids)
  content_lists {text = text} doc.at_end_tag = sym (text_elements text)
  content_lists (doc.says p c) = content_lists c
  content_lists (doc.refers r c) = content_lists c
  content_lists (doc.quotes s c) = content_lists c
  content_lists {text = text} (doc.child {tree = n} {kids = kids} e c) =
      let a = element_lists e in
      let b = content_lists c in
      let both = length-append (in_element e) (in_content c) in
      let sum = elements-kids text n kids in omega arith
  content_lists {text = text} (doc.aside {tree = n} {kids = kids} m c) =
      let a = misc_elements m in
      let b = content_lists c in
      let sum = elements-kids text n kids in omega arith

document_lists : {rules : Rules} {l : Level} {kids : List Tree} {ts : List ℕ} {w : Tree}
    (t : Top rules l kids ts w)
    → elements_in (forest_of kids) + length (in_document t) ≡ element_count w
document_lists (doc.declares f k) = document_lists k
document_lists (doc.space s k) = document_lists k
document_lists {kids = kids} (doc.aside {tree = n} m k) =
    let a = misc_elements m in
    let b = document_lists k in
    let sum = elements-append kids (n ∷ []) in
    let one = elements-put n (forest_of []) in omega arith
document_lists (doc.types m f k) = document_lists k
document_lists {kids = kids} (doc.root {tree = n} m e k) =
    let a = element_lists e in
    let b = document_lists k in
    let both = length-append (in_element e) (in_document k) in
    let sum = elements-append kids (n ∷ []) in
    let one = elements-put n (forest_of []) in omega arith
document_lists doc.ends = omega arith

-- one list for each element
pub declared_lists : (bytes : List ℕ) (t : Tree) (ds : List (List Binding)) → IsDeclared bytes t ds
    → length ds ≡ element_count t
declared_lists bytes t ds d =
    let e = document_lists d.1.0 in
    let same = ap (λ (x : List (List Binding)). length x) d.1.1 in omega arith
