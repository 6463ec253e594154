-- Each element of a document has one list of declarations.
use Rattle.std.proofs.Common.{◌≡◌, ap, sym, refl, arith, ℕ, ◌+◌, List, [], ◌∷◌, ◌++◌, length}
use Rattle.std.proofs.Common.{length-append}
use Rattle.xt_names.specs.declared.names.Binding.{Binding}
use Rattle.xt_tree.specs.Forest.{Forest, end}
use Rattle.xt_tree.specs.TreeView.{put, forest_of}
use Rattle.xt_tree.specs.declared.trees.Tree.{Tree}
use Rattle.xt_tree.specs.declared.trees.Tree.TheVariants.{Doc, Elem, Text, Comment, Pi, Attr}
use Rattle.doc_grammar.specs.Lexemes.{Misc}
use Rattle.doc_grammar.specs.Lexemes as lexeme
use Rattle.doc_grammar.specs.Document.{Rules, Element, Content, Level, Top, text_nodes}
use Rattle.doc_grammar.specs.Document as doc
use Rattle.doc_grammar.specs.Declarations.{in_element, in_content, in_document, IsDeclared}
use Rattle.sheet_table.specs.SheetNodes.Cleaned.{elements_in}
use Rattle.module_loading.specs.ModuleReader.Links.{document_content}
use Rattle.module_loading.specs.ModuleReader.Modules.{CanBeRead}

-- the elements of a tree and of those after it
elements_put : (t : Tree) (f : Forest) → elements_in (put t f) ≡ elements_in (put t end) + elements_in f
elements_put (Doc kids) f = omega arith
elements_put (Elem name attributes kids) f = omega arith
elements_put (Text t) f = omega arith
elements_put (Comment t) f = omega arith
elements_put (Pi target t) f = omega arith
elements_put (Attr name t) f = omega arith

elements_append : (ts us : List Tree)
    → elements_in (forest_of (ts ++ us)) ≡ elements_in (forest_of ts) + elements_in (forest_of us)
elements_append [] us = omega arith
elements_append (t ∷ ts) us =
    let whole = elements_put t (forest_of (ts ++ us)) in
    let front = elements_put t (forest_of ts) in
    let rest = elements_append ts us in
    omega (arith, whole, front, rest)

elements_text : (text : List ℕ) → elements_in (forest_of (text_nodes text)) ≡ 0
elements_text [] = refl
elements_text (c ∷ cs) = refl

elements_aside : {ts rest : List ℕ} {t : Tree} → Misc ts t rest → elements_in (put t end) ≡ 0
elements_aside (lexeme.comment text) = refl
elements_aside (lexeme.instruction instruction) = refl

-- texts, a tree and more
elements_between : (text : List ℕ) (t : Tree) (kids : List Tree)
    → elements_in (forest_of (text_nodes text ++ t ∷ kids)) ≡ elements_in (put t end) + elements_in (forest_of kids)
elements_between text t kids =
    let whole = elements_append (text_nodes text) (t ∷ kids) in
    let none = elements_text text in
    let next = elements_put t (forest_of kids) in
    omega (arith, whole, none, next)

elements_behind : (kids : List Tree) (t : Tree)
    → elements_in (forest_of (kids ++ t ∷ [])) ≡ elements_in (forest_of kids) + elements_in (put t end)
elements_behind kids t = elements_append kids (t ∷ [])

mutual
  element_counted : {rules : Rules} {k : ℕ} {scope : List Binding} {ts rest : List ℕ} {n : Tree}
      → (e : Element rules k scope ts n rest) → length (in_element e) ≡ elements_in (put n end)
  element_counted (doc.empty {t = tag} low name attributes opens) = refl
  element_counted (doc.full {t = tag} low name attributes opens content close) =
      let kids = content_counted content in
      omega (arith, kids)

  content_counted : {rules : Rules} {k n : ℕ} {scope : List Binding} {text ts rest : List ℕ} {kids : List Tree}
      → (c : Content rules k scope n text ts kids rest) → length (in_content c) ≡ elements_in (forest_of kids)
  content_counted (doc.at_end_tag {text = text}) = sym (elements_text text)
  content_counted (doc.says stands more) = content_counted more
  content_counted (doc.refers reference more) = content_counted more
  content_counted (doc.quotes cdata more) = content_counted more
  content_counted (doc.child {text = text} {tree = tree} {kids = kids} element more) =
      let all = length-append (in_element element) (in_content more) in
      let one = element_counted element in
      let rest = content_counted more in
      let whole = elements_between text tree kids in
      omega (arith, all, one, rest, whole)
  content_counted (doc.aside {text = text} {tree = tree} {kids = kids} misc more) =
      let rest = content_counted more in
      let none = elements_aside misc in
      let whole = elements_between text tree kids in
      omega (arith, rest, none, whole)

document_counted : {rules : Rules} {l : Level} {kids : List Tree} {ts : List ℕ} {w : Tree}
    → (t : Top rules l kids ts w)
    → elements_in (forest_of kids) + length (in_document t) ≡ elements_in (document_content w)
document_counted (doc.declares declaration more) = document_counted more
document_counted (doc.space white more) = document_counted more
document_counted (doc.aside {kids = kids} {tree = tree} misc more) =
    let rest = document_counted more in
    let none = elements_aside misc in
    let whole = elements_behind kids tree in
    omega (arith, rest, none, whole)
document_counted (doc.types may doctype more) = document_counted more
document_counted (doc.root {kids = kids} {tree = tree} may element more) =
    let rest = document_counted more in
    let all = length-append (in_element element) (in_document more) in
    let one = element_counted element in
    let whole = elements_behind kids tree in
    omega (arith, rest, all, one, whole)
document_counted doc.ends = omega arith

pub can_be_read : (bytes : List ℕ) (tree : Tree) (declared : List (List Binding))
    → IsDeclared bytes tree declared → CanBeRead tree declared
can_be_read bytes tree declared h =
    let counted = document_counted h.1.0 in
    let same = ap length h.1.1 in
    omega (arith, counted, same)
