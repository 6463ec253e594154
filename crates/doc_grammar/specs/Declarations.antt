-- The namespace declarations of a document (Namespaces in XML 1.0, 3 and 6): for each element, in
-- document order, those that its start tag writes, in the order in which they stand there. They are
-- read off the productions of the grammar.
use Rattle.std.specs.Prelude.{◌≡◌, ℕ, List, [], ◌∷◌, ◌++◌}
use Rattle.std.specs.Str.{IsUtf8, chars}
use Rattle.xt_names.specs.declared.names.Binding.{Binding}
use Rattle.xt_tree.specs.declared.trees.Tree.{Tree}
use Rattle.doc_grammar.specs.Lines.{text_of}
use Rattle.doc_grammar.specs.Scopes.{declarations}
use Rattle.doc_grammar.specs.Document.{Rules, Element, Content, Level, Top, IsDocumentText}
use Rattle.doc_grammar.specs.Document as doc

abbrev mutual
  -- an element's own, and then those of the elements inside of it
  pub in_element : {rules : Rules} {k : ℕ} {scope : List Binding} {ts rest : List ℕ} {n : Tree}
      → Element rules k scope ts n rest → List (List Binding)
  in_element (doc.empty {t = tag} low name attributes opens) = declarations tag.attributes ∷ []
  in_element (doc.full {t = tag} low name attributes opens content end) =
      declarations tag.attributes ∷ in_content content

  -- those of the elements among the children and below them
  pub in_content : {rules : Rules} {k n : ℕ} {scope : List Binding} {text ts rest : List ℕ}
      {kids : List Tree}
      → Content rules k scope n text ts kids rest → List (List Binding)
  in_content doc.at_end_tag = []
  in_content (doc.says stands more) = in_content more
  in_content (doc.refers reference more) = in_content more
  in_content (doc.quotes cdata more) = in_content more
  in_content (doc.child element more) = in_element element ++ in_content more
  in_content (doc.aside misc more) = in_content more

-- those of the whole document
abbrev pub in_document : {rules : Rules} {l : Level} {kids : List Tree} {ts : List ℕ} {w : Tree}
    → Top rules l kids ts w → List (List Binding)
in_document (doc.declares declaration more) = in_document more
in_document (doc.space white more) = in_document more
in_document (doc.aside misc more) = in_document more
in_document (doc.types may doctype more) = in_document more
in_document (doc.root may element more) = in_element element ++ in_document more
in_document doc.ends = []

-- The bytes are a document that stands for this tree, and these are the declarations of its
-- elements.
abbrev pub IsDeclared : List ℕ → Tree → List (List Binding) → Type 0
IsDeclared bytes tree declared =
    IsUtf8 bytes × ((text : IsDocumentText (text_of (chars bytes)) tree) ×
    (declared ≡ in_document text))
