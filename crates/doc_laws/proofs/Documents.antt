-- What is written of a readable document is a document.
use Rattle.std.proofs.Common.{◌≡◌, ℕ, ◌+◌, ◌≤◌, List, [], true, false, not, ◌&&◌, ◌==◌, Some, refl, sym, ap, ◌∙◌, subst, arith}
use Rattle.std.specs.Prelude.{nat_le, encode_utf8_all}
use Rattle.std.proofs.lemmas.Bool.{and_parts, not-true, leb-true, eqb-true}
use Rattle.std.proofs.lemmas.Option.{same_Some}
use Rattle.std.proofs.lemmas.Str.{chars-encodes}
use Rattle.xt_names.specs.Classes.{is_in_ranges}
use Rattle.xt_tree.specs.declared.trees.Tree.{Tree}
use Rattle.xt_tree.specs.declared.trees.Tree.TheVariants.{Doc, Elem, Text, Comment, Pi, Attr}
use Rattle.xt_tree.specs.Forest.{Forest, forest_size, forest_height}
use Rattle.xt_tree.specs.Sound.{are_sound_behind, is_sound_root, is_sound_tree}
use Rattle.xt_tree.specs.TreeView.{tree_height, tree_size}
use Rattle.doc_grammar.specs.Lines.{lines, text_of}
use Rattle.doc_grammar.specs.Document.{IsDocument, IsDocumentText, Top, blank, fresh}
use Rattle.doc_grammar.specs.Document as grammar
use Rattle.doc_grammar.specs.Scopes.{opened}
use Rattle.doc_writer.specs.Readable.{element_count, has_text, keep_returns, is_readable_kids, as_written_forest, as_written, is_readable}
use Rattle.doc_writer.specs.Scopes.{first_scope}
use Rattle.doc_writer.specs.Written.{xml_declaration, written_forest, written_text, written_tree, written_bare}
use Rattle.doc_laws.proofs.Uris.{keep_uris, sound_uris}
use Rattle.doc_laws.proofs.Declarations.{declaration_back}
use Rattle.doc_laws.proofs.Elements.{forest_same}
use Rattle.doc_laws.proofs.Contents.{Allows}
use Rattle.doc_laws.proofs.Tops.{before_root, unmarked}
use Rattle.doc_laws.proofs.Characters.{are_clean, clean_join, lines_same, scalars_clean}
use Rattle.doc_laws.proofs.WrittenCharacters.{forest_clean}

-- the parts of what is known of the children of a readable document
record AreReadable (kids : Forest) : Type 0 where
  sound : are_sound_behind false kids ≡ true
  low : forest_height kids ≤ 2000
  small : 1 + forest_size kids ≤ 0x7FFF_FFFF_FFFF_FFFF
  one_element : element_count kids ≡ 1
  no_text : has_text kids ≡ false
  returns : keep_returns kids ≡ true
  uris : keep_uris kids ≡ true

readable_parts : (kids : Forest) → is_readable (Doc kids) ≡ true → AreReadable kids
readable_parts kids r =
    let a = and_parts (is_sound_tree (Doc kids)) (is_readable_kids kids) r in
    let b = and_parts (is_sound_root (Doc kids) && nat_le (tree_height (Doc kids)) 2000) (nat_le (tree_size (Doc kids)) 0x7FFF_FFFF_FFFF_FFFF) a.0 in
    let d = and_parts (is_sound_root (Doc kids)) (nat_le (tree_height (Doc kids)) 2000) b.0 in
    let e = and_parts ((element_count kids == 1) && not (has_text kids)) (keep_returns kids) a.1 in
    let f = and_parts (element_count kids == 1) (not (has_text kids)) e.0 in
    let high = leb-true (tree_height (Doc kids)) 2000 d.1 in
    let size = leb-true (tree_size (Doc kids)) 0x7FFF_FFFF_FFFF_FFFF b.1 in
    record {
      sound = d.0;
      low = grind arith;
      small = omega arith;
      one_element = eqb-true (element_count kids) 1 f.0;
      no_text = not-true (has_text kids) f.1;
      returns = e.1;
      uris = sound_uris false kids d.0;
    }

top_allows : (kids : Forest) → AreReadable kids → Allows 0 [] kids
top_allows kids r = let low = r.low in let small = r.small in record { xml = refl; deep = omega arith; small = omega arith; uris = r.uris }

declaration_clean : are_clean xml_declaration ≡ true
unfolding is_in_ranges
declaration_clean = refl

bare_clean : (kids : Forest) → AreReadable kids → are_clean (written_forest first_scope kids) ≡ true
bare_clean kids r = forest_clean kids 0 [] false (top_allows kids r) r.sound r.returns

document_clean : (kids : Forest) → AreReadable kids → are_clean (written_text (Doc kids)) ≡ true
document_clean kids r = clean_join xml_declaration (written_forest first_scope kids) declaration_clean (bare_clean kids r)

document_text : (kids : Forest) → AreReadable kids → IsDocumentText (written_text (Doc kids)) (as_written (Doc kids))
document_text kids r =
    let P : Forest → Type 0 = λ f. Top opened blank [] (written_text (Doc kids)) (Doc f) in
    subst P (forest_same (as_written_forest first_scope kids)) (grammar.declares (declaration_back (written_forest first_scope kids)) (before_root fresh kids [] refl (top_allows kids r) r.sound r.one_element r.no_text))

bare_text : (kids : Forest) → AreReadable kids → IsDocumentText (written_forest first_scope kids) (as_written (Doc kids))
bare_text kids r =
    let P : Forest → Type 0 = λ f. Top opened blank [] (written_forest first_scope kids) (Doc f) in
    subst P (forest_same (as_written_forest first_scope kids)) (before_root blank kids [] refl (top_allows kids r) r.sound r.one_element r.no_text)

bare_same : (kids : Forest) → AreReadable kids → text_of (written_forest first_scope kids) ≡ written_forest first_scope kids
bare_same kids r = ap lines (unmarked kids r.sound r.one_element r.no_text) ∙ lines_same (written_forest first_scope kids) (bare_clean kids r)

text_same : (kids : Forest) → AreReadable kids → text_of (written_text (Doc kids)) ≡ written_text (Doc kids)
text_same kids r = lines_same (written_text (Doc kids)) (document_clean kids r)

-- characters that are a document, with no mark and no carriage return, are one as bytes too
encoded : (text : List ℕ) (t : Tree) → are_clean text ≡ true → text_of text ≡ text → IsDocumentText text t → IsDocument (encode_utf8_all text) t
encoded text t clean same d =
    let scalar = scalars_clean text clean in
    let P : List ℕ → Type 0 = λ x. IsDocumentText x t in
    let Q : List ℕ → Type 0 = λ x. IsDocumentText (text_of x) t in
    ((text, (scalar, refl)), subst Q (sym (chars-encodes text scalar)) (subst P (sym same) d))

whole_document : (kids : Forest) → AreReadable kids → IsDocument (encode_utf8_all (written_text (Doc kids))) (as_written (Doc kids))
whole_document kids r = encoded (written_text (Doc kids)) (as_written (Doc kids)) (document_clean kids r) (text_same kids r) (document_text kids r)

bare_document : (kids : Forest) → AreReadable kids → IsDocument (encode_utf8_all (written_forest first_scope kids)) (as_written (Doc kids))
bare_document kids r = encoded (written_forest first_scope kids) (as_written (Doc kids)) (bare_clean kids r) (bare_same kids r) (bare_text kids r)

pub document_back : (t : Tree) (bytes : List ℕ) → is_readable t ≡ true → written_tree t ≡ Some bytes → IsDocument bytes (as_written t)
document_back (Doc kids) bytes r e = let P : List ℕ → Type 0 = λ x. IsDocument x (as_written (Doc kids)) in subst P (same_Some _ _ e) (whole_document kids (readable_parts kids r))
document_back (Elem name attributes kids) bytes r e = absurd (cc)
document_back (Text t) bytes r e = absurd (cc)
document_back (Comment t) bytes r e = absurd (cc)
document_back (Pi target t) bytes r e = absurd (cc)
document_back (Attr name t) bytes r e = absurd (cc)

pub bare_back : (t : Tree) (bytes : List ℕ) → is_readable t ≡ true → written_bare t ≡ Some bytes → IsDocument bytes (as_written t)
bare_back (Doc kids) bytes r e = let P : List ℕ → Type 0 = λ x. IsDocument x (as_written (Doc kids)) in subst P (same_Some _ _ e) (bare_document kids (readable_parts kids r))
bare_back (Elem name attributes kids) bytes r e = absurd (cc)
bare_back (Text t) bytes r e = absurd (cc)
bare_back (Comment t) bytes r e = absurd (cc)
bare_back (Pi target t) bytes r e = absurd (cc)
bare_back (Attr name t) bytes r e = absurd (cc)
