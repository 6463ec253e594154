-- A reading finds the declarations that the productions of its text have.
use Rattle.std.proofs.Common.{◌≡◌, ℕ, suc, ◌<◌, List, [], ◌∷◌, ◌++◌, refl, sym, ap, ◌∙◌, subst, true, Some, append_assoc, append-nil}
use Rattle.std.proofs.lemmas.Bool.{lt-ltb}
use Rattle.std.specs.Str.{IsUtf8, chars}
use Rattle.xt_names.specs.declared.names.Binding.{Binding}
use Rattle.xt_tree.specs.TreeView.{forest_of}
use Rattle.xt_tree.specs.declared.trees.Tree.{Tree}
use Rattle.xt_tree.specs.declared.trees.Tree.TheVariants.{Doc}
use Rattle.doc_grammar.specs.Characters.{may_stand, brackets_behind}
use Rattle.doc_grammar.specs.RawNames.{RawName, RawTag, written_name}
use Rattle.doc_grammar.specs.Scopes.{Opened, opened, declarations}
use Rattle.doc_grammar.specs.Lines.{text_of}
use Rattle.doc_grammar.specs.Document.{limit, Rules, element_of, text_nodes, Element, Content, Level, begun, Top, IsText}
use Rattle.doc_grammar.specs.Document as doc
use Rattle.doc_grammar.specs.Declarations.{in_element, in_content, in_document, IsDeclared}
use Rattle.doc_grammar.specs.Lexing.{ampersand}
use Rattle.doc_grammar.specs.Machine.{Stack, ground, element, content, tag, refers, tagged, slashed, ending, depth, scope_of, with_text, with_child, with_declared, may_open, step, whole, run, start}
use Rattle.doc_grammar.proofs.CharacterFacts.{open_stands, ampersand_stands, open_space, close_space, slash_space}
use Rattle.doc_grammar.proofs.Residue.{more_kids}
use Rattle.doc_grammar.proofs.Runs.{runs_document}
use Rattle.doc_grammar.proofs.LexReads.{Reads, goes, reference_reads}
use Rattle.doc_grammar.proofs.TagReads.{start_reads, end_reads}
use Rattle.doc_grammar.proofs.MarkupReads.{misc_reads, section_reads, declaration_reads, doctype_reads}
use Rattle.xt_names.specs.Characters.{is_space}
use Rattle.xt_names.proofs.CharacterLemmas.{is_other}

-- with the declarations of some elements more
with_all : List (List Binding) → Stack → Stack
with_all ds (ground l kids es) = ground l kids (es ++ ds)
with_all ds (element name o kids st) = element name o kids (with_all ds st)

all_none : (st : Stack) → with_all [] st ≡ st
unfolding with_all
all_none (ground l kids es) = ap (λ (x : List (List Binding)). ground l kids x) (append-nil es)
all_none (element name o kids st) = ap (λ (x : Stack). element name o kids x) (all_none st)

all_first : (d : List Binding) (ds : List (List Binding)) (st : Stack)
    → with_all (d ∷ ds) st ≡ with_all ds (with_declared d st)
unfolding with_all
all_first d ds (ground l kids es) =
    ap (λ (x : List (List Binding)). ground l kids x) (sym (append_assoc es (d ∷ []) ds))
all_first d ds (element name o kids st) =
    ap (λ (x : Stack). element name o kids x) (all_first d ds st)

all_both : (ds more : List (List Binding)) (st : Stack)
    → with_all (ds ++ more) st ≡ with_all more (with_all ds st)
unfolding with_all
all_both ds more (ground l kids es) =
    ap (λ (x : List (List Binding)). ground l kids x) (sym (append_assoc es ds more))
all_both ds more (element name o kids st) =
    ap (λ (x : Stack). element name o kids x) (all_both ds more st)

depth-all : (ds : List (List Binding)) (st : Stack) → depth (with_all ds st) ≡ depth st
unfolding with_all
depth-all ds (ground l kids es) = refl
depth-all ds (element name o kids st) = ap (λ (n : ℕ). suc n) (depth-all ds st)

depth-declared : (d : List Binding) (st : Stack) → depth (with_declared d st) ≡ depth st
depth-declared d (ground l kids es) = refl
depth-declared d (element name o kids st) = ap (λ (n : ℕ). suc n) (depth-declared d st)

depth-text : (text : List ℕ) (st : Stack) → depth (with_text text st) ≡ depth st
depth-text text (ground l kids es) = refl
depth-text text (element name o kids st) = refl

scope-text : (text : List ℕ) (st : Stack) → scope_of (with_text text st) ≡ scope_of st
scope-text text (ground l kids es) = refl
scope-text text (element name o kids st) = refl

-- the end of a start tag

opens_reads : {rules : Rules} {w : Tree} {ds : List (List Binding)} {t : RawTag} {o : Opened}
    {ts : List ℕ} {st : Stack}
    → rules (scope_of st) t ≡ Some o
    → Reads rules w ds ts
    (content 0 [] (element t.name o [] (with_declared (declarations t.attributes) st)))
    → Reads rules w ds (62 ∷ ts) (tagged t st)
unfolding step
opens_reads {t = t} {o = o} {st = st} r k =
    goes {s' = content 0 [] (element t.name o [] (with_declared (declarations t.attributes) st))}
    (rw (close_space, r) refl) k

closes_reads : {rules : Rules} {w : Tree} {ds : List (List Binding)} {t : RawTag} {o : Opened}
    {ts : List ℕ} {st : Stack}
    → rules (scope_of st) t ≡ Some o
    → Reads rules w ds ts
    (content 0 [] (with_child (element_of o []) (with_declared (declarations t.attributes) st)))
    → Reads rules w ds (47 ∷ 62 ∷ ts) (tagged t st)
unfolding step
closes_reads {t = t} {o = o} {st = st} r k =
    goes {s' = slashed t st} (rw slash_space refl)
    (goes {s' = content 0 []
    (with_child (element_of o []) (with_declared (declarations t.attributes) st))}
    (rw r refl) k)

-- in the content of an element

says_reads : {rules : Rules} {w : Tree} {ds : List (List Binding)} {n c : ℕ} {text ts : List ℕ}
    {name : RawName} {o : Opened} {kids : List Tree} {st : Stack}
    → may_stand n c ≡ true
    → Reads rules w ds ts (content (brackets_behind n c) (text ++ c ∷ []) (element name o kids st))
    → Reads rules w ds (c ∷ ts) (content n text (element name o kids st))
unfolding step
says_reads {n = n} {c = c} p k =
    let no_tag = is_other (may_stand n) c 60 p (open_stands n) in
    let no_reference = is_other (may_stand n) c 38 p (ampersand_stands n) in
    goes (rw (no_tag, no_reference, p) refl) k

refers_reads : {rules : Rules} {w : Tree} {ds : List (List Binding)} {n : ℕ} {text ts : List ℕ}
    {name : RawName} {o : Opened} {kids : List Tree} {st : Stack}
    → Reads rules w ds ts (refers text ampersand (element name o kids st))
    → Reads rules w ds (38 ∷ ts) (content n text (element name o kids st))
unfolding step
refers_reads k = goes refl k

opens_tag : {rules : Rules} {w : Tree} {ds : List (List Binding)} {n : ℕ} {text ts : List ℕ}
    {st : Stack}
    → Reads rules w ds ts (tag text st) → Reads rules w ds (60 ∷ ts) (content n text st)
unfolding step
opens_tag k = goes refl k

ends_tag : {rules : Rules} {w : Tree} {ds : List (List Binding)} {n : ℕ} {text ts : List ℕ}
    {name : RawName} {o : Opened} {kids : List Tree} {st : Stack}
    → Reads rules w ds ts (ending (written_name name) (element name o (kids ++ text_nodes text) st))
    → Reads rules w ds (60 ∷ 47 ∷ ts) (content n text (element name o kids st))
unfolding step
ends_tag k = goes refl (goes refl k)

element_low : {rules : Rules} {k : ℕ} {scope : List Binding} {ts rest : List ℕ} {tree : Tree}
    → Element rules k scope ts tree rest → k < limit
element_low (doc.empty low d a r) = low
element_low (doc.full low d a r c e) = low

mutual
  unfolding with_all

  element_reads : {rules : Rules} {w : Tree} {ds : List (List Binding)} {k n : ℕ}
      {scope : List Binding} {ts rest : List ℕ} {tree : Tree}
      (e : Element rules k scope ts tree rest) (text : List ℕ) (st : Stack)
      → k ≡ depth st → scope ≡ scope_of st → may_open st ≡ true
      → Reads rules w ds rest
      (content 0 [] (with_child tree (with_all (in_element e) (with_text text st))))
      → Reads rules w ds ts (content n text st)
  element_reads {rules = rules} {w = w} {ds = ds}
      (doc.empty {t = t} {o = o} {rest = rest} low d a r) text st ek es m k =
      let D = declarations t.attributes in
      let st' = with_text text st in
      let same : with_all (D ∷ []) st' ≡ with_declared D st' =
      all_first D [] st' ∙ all_none (with_declared D st') in
      let P : Stack → Type 0 =
      λ x. Reads rules w ds rest (content 0 [] (with_child (element_of o []) x)) in
      opens_tag (start_reads m d a
      (closes_reads {o = o} (rw (scope-text text st, ← es) r) (subst P same k)))
  element_reads {rules = rules} {w = w} {ds = ds}
      (doc.full {t = t} {o = o} {inner = inner} {rest = rest}
      {kids = kids} low d a r c e) text st ek es m k =
      let D = declarations t.attributes in
      let st' = with_text text st in
      let P : Stack → Type 0 =
      λ x. Reads rules w ds rest (content 0 [] (with_child (element_of o kids) x)) in
      let high : suc _ ≡ suc (depth (with_declared D st')) =
      ap (λ (x : ℕ). suc x) (ek ∙ sym (depth-declared D st' ∙ depth-text text st)) in
      opens_tag (start_reads m d a (opens_reads {o = o} (rw (scope-text text st, ← es) r)
      (content_reads {name = t.name} {o = o} {front = []} {st = with_declared D st'} c high refl
      (end_reads {name = t.name} {o = o} {kids = kids}
      {st = with_all (in_content c) (with_declared D st')} e
      (subst P (all_first D (in_content c) st') k)))))

  content_reads : {rules : Rules} {w : Tree} {ds : List (List Binding)} {k n : ℕ}
      {scope : List Binding} {text ts end : List ℕ} {name : RawName} {o : Opened}
      {kids front : List Tree} {st : Stack}
      (c : Content rules k scope n text ts kids (60 ∷ 47 ∷ end))
      → k ≡ suc (depth st) → scope ≡ o.scope
      → Reads rules w ds end
      (ending (written_name name) (element name o (front ++ kids) (with_all (in_content c) st)))
      → Reads rules w ds ts (content n text (element name o front st))
  content_reads {rules = rules} {w = w} {ds = ds} {text = text} {end = end} {name = name} {o = o}
      {front = front} {st = st} doc.at_end_tag ek es k =
      let P : Stack → Type 0 =
      λ x. Reads rules w ds end
      (ending (written_name name) (element name o (front ++ text_nodes text) x)) in
      ends_tag (subst P (all_none st) k)
  content_reads (doc.says p c) ek es k = says_reads p (content_reads c ek es k)
  content_reads {text = text} {name = name} {o = o} {front = front} {st = st}
      (doc.refers {v = v} {ts = ts} {mid = mid} r c) ek es k =
      refers_reads (reference_reads v mid text (element name o front st) ts ampersand r
      (content_reads c ek es k))
  content_reads (doc.quotes s c) ek es k = section_reads s (content_reads c ek es k)
  content_reads {rules = rules} {w = w} {ds = ds} {k = high} {text = text} {end = end} {name = name}
      {o = o} {front = front} {st = st} (doc.child {tree = tree} {kids = kids} e c) ek es k =
      let low : high < limit = element_low e in
      let P : Stack → Type 0 =
      λ x. Reads rules w ds end
      (ending (written_name name)
      (element name o (front ++ (text_nodes text ++ tree ∷ kids)) x)) in
      let Q : List Tree → Type 0 =
      λ x. Reads rules w ds end
      (ending (written_name name)
      (element name o x (with_all (in_content c) (with_all (in_element e) st)))) in
      let k' = subst Q (more_kids front (text_nodes text) kids tree)
      (subst P (all_both (in_element e) (in_content c) st) k) in
      element_reads e text (element name o front st) ek es (lt-ltb _ _ (rw ek at low))
      (content_reads {name = name} {o = o} {front = (front ++ text_nodes text) ++ tree ∷ []}
      {st = with_all (in_element e) st} c
      (ek ∙ ap (λ (x : ℕ). suc x) (sym (depth-all (in_element e) st))) es k')
  content_reads {rules = rules} {w = w} {ds = ds} {text = text} {end = end} {name = name} {o = o}
      {front = front} {st = st} (doc.aside {tree = tree} {kids = kids} m c) ek es k =
      let Q : List Tree → Type 0 =
      λ x. Reads rules w ds end
      (ending (written_name name) (element name o x (with_all (in_content c) st))) in
      misc_reads m (content_reads {name = name} {o = o}
      {front = (front ++ text_nodes text) ++ tree ∷ []} {st = st} c ek es
      (subst Q (more_kids front (text_nodes text) kids tree) k))

-- among the children of the document

space_reads : {rules : Rules} {w : Tree} {ds : List (List Binding)} {n c : ℕ} {l : Level}
    {text ts : List ℕ} {kids : List Tree} {es : List (List Binding)}
    → is_space c ≡ true → Reads rules w ds ts (content 0 [] (ground (begun l) kids es))
    → Reads rules w ds (c ∷ ts) (content n text (ground l kids es))
unfolding step
space_reads {c = c} s k = goes (rw (is_other is_space c 60 s open_space, s) refl) k

document_reads : {rules : Rules} {w : Tree} {l : Level} {kids : List Tree} {ts : List ℕ}
    (t : Top rules l kids ts w) (n : ℕ) (text : List ℕ) (es : List (List Binding))
    → Reads rules w (es ++ in_document t) ts (content n text (ground l kids es))
unfolding with_all
document_reads (doc.declares f k) n text es = declaration_reads f (document_reads k 0 [] es)
document_reads (doc.space s k) n text es = space_reads s (document_reads k 0 [] es)
document_reads (doc.aside m k) n text es = misc_reads m (document_reads k 0 [] es)
document_reads (doc.types m f k) n text es = doctype_reads m f (document_reads k 0 [] es)
document_reads {rules = rules} {w = w} {l = l} {kids = kids} {ts = ts} (doc.root m e k) n text es =
    let P : List (List Binding) → Type 0 =
    λ x. Reads rules w x ts (content n text (ground l kids es)) in
    subst P (append_assoc es (in_element e) (in_document k))
    (element_reads e text (ground l kids es) refl refl m
    (document_reads k 0 [] (es ++ in_element e)))
document_reads {kids = kids} doc.ends n text es =
    record {
      found = ap (λ (x : List (List Binding)). whole (Doc (forest_of kids)) x)
          (sym (append-nil es));
    }

-- a text is read as its tree and its declarations
pub declared_runs : (rules : Rules) (cs : List ℕ) (tree : Tree) (t : IsText rules cs tree)
    → run rules cs start ≡ whole tree (in_document t)
declared_runs rules cs tree t = (document_reads t 0 [] []).found

same_declared : {s t : Tree} {ds es : List (List Binding)} → whole s ds ≡ whole t es → ds ≡ es
same_declared e = cc

-- what a reading finds is what the text has
pub found_declared : (bytes : List ℕ) (tree : Tree) (ds : List (List Binding)) → IsUtf8 bytes
    → run opened (text_of (chars bytes)) start ≡ whole tree ds → IsDeclared bytes tree ds
found_declared bytes tree ds u e =
    let t = runs_document opened (text_of (chars bytes)) tree ds e in
    (u, (t, same_declared (sym e ∙ declared_runs opened (text_of (chars bytes)) tree t)))

pub declared_found : (bytes : List ℕ) (tree : Tree) (ds : List (List Binding))
    → IsDeclared bytes tree ds → run opened (text_of (chars bytes)) start ≡ whole tree ds
declared_found bytes tree ds d =
    declared_runs opened (text_of (chars bytes)) tree d.1.0 ∙ ap
    (λ (x : List (List Binding)). whole tree x) (sym d.1.1)

pub declared_one : (bytes : List ℕ) (s t : Tree) (ds es : List (List Binding))
    → IsDeclared bytes s ds → IsDeclared bytes t es → ds ≡ es
declared_one bytes s t ds es a b =
    same_declared (sym (declared_found bytes s ds a) ∙ declared_found bytes t es b)
