-- The declarations of all elements of a document may stand.
use Rattle.std.proofs.Common.{◌≡◌, ℕ, List, ◌++◌, true, refl, sym, subst, ◌∙◌}
use Rattle.std.proofs.lemmas.Bool.{and_from}
use Rattle.std.proofs.lemmas.List.Folds.{list_all-append}
use Rattle.std.specs.List.{list_all}
use Rattle.xt_names.specs.declared.names.Binding.{Binding}
use Rattle.xt_tree.specs.declared.trees.Tree.{Tree}
use Rattle.closed_sheets.specs.Values.{is_good_binding}
use Rattle.doc_grammar.specs.Declarations.{in_element, in_content, in_document, IsDeclared}
use Rattle.doc_grammar.specs.Document.{Element, Content, Level, Top}
use Rattle.doc_grammar.specs.Document as doc
use Rattle.doc_grammar.specs.Scopes.{opened, declarations}
use Rattle.doc_grammar.proofs.SoundNames.{qname_raw, attributes_raw}
use Rattle.closed_parts.specs.SoundNodes.Sound.{are_good_declarations}
use Rattle.closed_parts.proofs.DeclaredBindings.Bindings.{tag_good}

both : (xs ys : List (List Binding)) → are_good_declarations xs ≡ true
    → are_good_declarations ys ≡ true → are_good_declarations (xs ++ ys) ≡ true
both xs ys h i =
    list_all-append (λ own. list_all is_good_binding own) xs ys
    ∙ and_from (are_good_declarations xs) _ h i

mutual
  element_good : {k : ℕ} {scope : List Binding} {ts rest : List ℕ} {n : Tree}
      → (d : Element opened k scope ts n rest) → are_good_declarations (in_element d) ≡ true
  element_good (doc.empty {scope = scope} {t = tag} {o = o} low name attributes opens) =
      let raw = attributes_raw attributes (qname_raw name) tt in
      and_from (list_all is_good_binding (declarations tag.attributes)) _
      (tag_good scope tag o raw.1 opens) refl
  element_good (doc.full {scope = scope} {t = tag} {o = o} low name attributes opens content end) =
      let raw = attributes_raw attributes (qname_raw name) tt in
      and_from (list_all is_good_binding (declarations tag.attributes)) _
      (tag_good scope tag o raw.1 opens) (content_good content)

  content_good : {k n : ℕ} {scope : List Binding} {text ts rest : List ℕ} {kids : List Tree}
      → (d : Content opened k scope n text ts kids rest)
      → are_good_declarations (in_content d) ≡ true
  content_good doc.at_end_tag = refl
  content_good (doc.says stands more) = content_good more
  content_good (doc.refers reference more) = content_good more
  content_good (doc.quotes cdata more) = content_good more
  content_good (doc.child element more) =
      both (in_element element) (in_content more) (element_good element) (content_good more)
  content_good (doc.aside misc more) = content_good more

document_good : {l : Level} {kids : List Tree} {ts : List ℕ} {w : Tree}
    → (d : Top opened l kids ts w) → are_good_declarations (in_document d) ≡ true
document_good (doc.declares declaration more) = document_good more
document_good (doc.space white more) = document_good more
document_good (doc.aside misc more) = document_good more
document_good (doc.types may doctype more) = document_good more
document_good (doc.root may element more) =
    both (in_element element) (in_document more) (element_good element) (document_good more)
document_good doc.ends = refl

pub declared_good : (bytes : List ℕ) (tree : Tree) (declared : List (List Binding))
    → IsDeclared bytes tree declared → are_good_declarations declared ≡ true
declared_good bytes tree declared d =
    subst (λ x. are_good_declarations x ≡ true) (sym d.1.1) (document_good d.1.0)
