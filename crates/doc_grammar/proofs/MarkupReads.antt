-- A reading goes through comments, instructions, sections and declarations as the grammar says.
use Rattle.std.proofs.Common.{◌≡◌, ℕ, List, [], ◌∷◌, ◌++◌, refl, true, false, ◌==◌, codes}
use Rattle.std.specs.Str.{bytes_eq}
use Rattle.std.proofs.lemmas.Bool.{eqb-true, false_from_ne_true}
use Rattle.std.proofs.lemmas.Slice.Eq.{bytes_eq-Decides}
use Rattle.xt_names.specs.declared.names.Binding.{Binding}
use Rattle.xt_tree.specs.declared.trees.Tree.{Tree}
use Rattle.xt_tree.specs.declared.trees.Tree.TheVariants.{Pi}
use Rattle.doc_grammar.specs.RawNames.{RawName}
use Rattle.doc_grammar.specs.Scopes.{Opened}
use Rattle.doc_grammar.specs.Lexemes.{Named, is_target, Instruction, Misc, Section}
use Rattle.doc_grammar.specs.Lexemes as lexemes
use Rattle.doc_grammar.specs.Forms.{Spelled, form_step}
use Rattle.doc_grammar.specs.Prolog.{xml_declaration, doctype_declaration}
use Rattle.doc_grammar.specs.Document.{Rules, Level, blank, fresh, typed, rooted, may_type}
use Rattle.doc_grammar.specs.Lexing.{dash, section_open, target_mark, target_space}
use Rattle.doc_grammar.specs.Machine.{Stack, ground, element, content, question, targeting, marked, forming, bang, with_text, with_aside, declares, in_forming, step}
use Rattle.doc_grammar.proofs.CharacterFacts.{x_starts, mark_name, mark_space}
use Rattle.doc_grammar.proofs.LexRests.{node, said}
use Rattle.doc_grammar.proofs.LexRests as lex
use Rattle.doc_grammar.proofs.TargetSteps.{xml_space, xml_named, xml_target}
use Rattle.doc_grammar.proofs.MarkupSteps.{no_doctype_dash}
use Rattle.doc_grammar.proofs.FormSteps.{no_form}
use Rattle.doc_grammar.proofs.LexReads.{Reads, Next, from, onward, goes, marked_reads, form_reads}
use Rattle.xt_names.specs.Characters.{is_space}
use Rattle.xt_names.proofs.BoolLemmas.{no}
use Rattle.xt_names.proofs.CharacterLemmas.{space_name}

-- targets

named_reads : {rules : Rules} {w : Tree} {ds : List (List Binding)}
    {read target text ts rest : List ℕ} {st : Stack}
    → Named read ts target rest → Reads rules w ds rest (targeting target text st)
    → Reads rules w ds ts (targeting read text st)
unfolding step
named_reads (lexemes.more p n) k = goes (rw p refl) (named_reads n k)
named_reads (lexemes.whole e) k = k

-- the target of an instruction begins no XML declaration
no_declaration : (st : Stack) (target : List ℕ) → is_target target ≡ true
    → declares st target ≡ false
no_declaration (ground blank kids ds) target i =
    false_from_ne_true (bytes_eq target (codes "xml")) (λ e.
    let is_xml : is_target (codes "xml") ≡ true =
    rw ((bytes_eq-Decides target (codes "xml")).0 e) at i in no is_xml xml_target)
no_declaration (ground fresh kids ds) target i = refl
no_declaration (ground typed kids ds) target i = refl
no_declaration (ground rooted kids ds) target i = refl
no_declaration (element name o kids st) target i = refl

bare_reads : {rules : Rules} {w : Tree} {ds : List (List Binding)} {target text rest : List ℕ}
    {st : Stack}
    → is_target target ≡ true → Reads rules w ds (62 ∷ rest) (marked (target_mark target) text st)
    → Reads rules w ds (63 ∷ 62 ∷ rest) (targeting target text st)
unfolding step
bare_reads {target = target} {st = st} i k =
    goes (rw (mark_name, no_declaration st target i, i, mark_space) refl) k

spaced_reads : {rules : Rules} {w : Tree} {ds : List (List Binding)} {c : ℕ}
    {target text rest : List ℕ} {st : Stack}
    → is_target target ≡ true → is_space c ≡ true
    → Reads rules w ds rest (marked (target_space target) text st)
    → Reads rules w ds (c ∷ rest) (targeting target text st)
unfolding step
spaced_reads {c = c} {target = target} {st = st} i s k =
    goes (rw (space_name c s, no_declaration st target i, i, s) refl) k

instruction_reads : {rules : Rules} {w : Tree} {ds : List (List Binding)}
    {text ts target inner rest : List ℕ} {st : Stack}
    → Instruction ts target inner rest
    → Reads rules w ds rest (content 0 [] (with_aside (Pi target inner) (with_text text st)))
    → Reads rules w ds ts (question text st)
unfolding step
instruction_reads {text = text} {st = st}
    (lexemes.bare {target = target} {rest = rest} (lexemes.ncname s d) i) k =
    goes (rw s refl) (named_reads d
    (bare_reads i (marked_reads text st (62 ∷ rest) (target_mark target) lex.in_target_mark k)))
instruction_reads {text = text} {st = st}
    (lexemes.with_text {target = target} {mid = mid} (lexemes.ncname s d) i p q e u) k =
    goes (rw s refl) (named_reads d
    (spaced_reads i p
    (marked_reads text st mid (target_space target) (lex.in_target_space q e u) k)))

-- a comment or an instruction
pub misc_reads : {rules : Rules} {w : Tree} {ds : List (List Binding)} {n : ℕ}
    {text ts mid : List ℕ} {tree : Tree} {st : Stack}
    → Misc ts tree mid → Reads rules w ds mid (content 0 [] (with_aside tree (with_text text st)))
    → Reads rules w ds ts (content n text st)
unfolding step
misc_reads {text = text} {st = st} (lexemes.comment {ts = ts} t) k =
    goes refl (goes refl (goes refl (marked_reads text st (45 ∷ ts) dash (lex.in_dash t) k)))
misc_reads (lexemes.instruction i) k = goes refl (goes refl (instruction_reads i k))

-- a section
pub section_reads : {rules : Rules} {w : Tree} {ds : List (List Binding)} {n : ℕ}
    {text ts more mid : List ℕ} {name : RawName} {o : Opened} {kids : List Tree} {st : Stack}
    → Section ts more mid → Reads rules w ds mid (content 0 (text ++ more) (element name o kids st))
    → Reads rules w ds ts (content n text (element name o kids st))
unfolding step
section_reads {text = text} {name = name} {o = o} {kids = kids} {st = st}
    (lexemes.section {ts = ts} t) k =
    goes refl (goes refl
    (goes refl (marked_reads text (element name o kids st) (67 ∷ 68 ∷ 65 ∷ 84 ∷ 65 ∷ 91 ∷ ts)
    (section_open (codes "CDATA["))
    (lex.in_section_open
    (lex.a_letter (lex.a_letter
    (lex.a_letter (lex.a_letter (lex.a_letter (lex.last_letter t))))))) k)))

-- the XML declaration
pub declaration_reads : {rules : Rules} {w : Tree} {ds : List (List Binding)} {n : ℕ}
    {text ts mid : List ℕ} {kids : List Tree} {es : List (List Binding)}
    → Spelled xml_declaration ts mid → Reads rules w ds mid (content 0 [] (ground fresh kids es))
    → Reads rules w ds (60 ∷ 63 ∷ 120 ∷ 109 ∷ 108 ∷ ts) (content n text (ground blank kids es))
unfolding step
declaration_reads {rules = rules} {w = w} {ds = ds} {text = text} {ts = ts} {kids = kids}
    {es = es} f k =
    goes refl (goes refl
    (goes {s' = targeting (120 ∷ []) text (ground blank kids es)} (rw x_starts refl)
    (named_reads (xml_named f)
    (behind_xml ts f (form_reads (ground fresh kids es) ts xml_declaration f k)))))
  where
    behind_xml : (ts : List ℕ) {mid : List ℕ} → Spelled xml_declaration ts mid
        → Reads rules w ds ts (forming xml_declaration (ground fresh kids es))
        → Reads rules w ds ts (targeting (codes "xml") text (ground blank kids es))
    behind_xml [] f k = absurd (no_form xml_declaration f)
    behind_xml (c ∷ ts) f k =
        let next : Next rules w ds ts
        (in_forming (ground fresh kids es) (form_step xml_declaration c)) = onward k in
        from rules w ds c ts (targeting (codes "xml") text (ground blank kids es))
        (rw (space_name c (xml_space f)) next)

-- a DOCTYPE
pub doctype_reads : {rules : Rules} {w : Tree} {ds : List (List Binding)} {n : ℕ}
    {text ts mid : List ℕ} {l : Level} {kids : List Tree} {es : List (List Binding)}
    → may_type l ≡ true → Spelled doctype_declaration ts mid
    → Reads rules w ds mid (content 0 [] (ground typed kids es))
    → Reads rules w ds (60 ∷ 33 ∷ ts) (content n text (ground l kids es))
unfolding step
doctype_reads {rules = rules} {w = w} {ds = ds} {text = text} {ts = ts} {l = l} {kids = kids}
    {es = es} m f k =
    goes refl (goes refl
    (behind_bang ts f (form_reads (ground typed kids es) ts doctype_declaration f k)))
  where
    behind_bang : (ts : List ℕ) {mid : List ℕ} → Spelled doctype_declaration ts mid
        → Reads rules w ds ts (forming doctype_declaration (ground typed kids es))
        → Reads rules w ds ts (bang text (ground l kids es))
    behind_bang [] f k = absurd (no_form doctype_declaration f)
    behind_bang (c ∷ ts) f k =
        let next : Next rules w ds ts
        (in_forming (ground typed kids es) (form_step doctype_declaration c)) = onward k in
        from rules w ds c ts (bang text (ground l kids es)) (rw (no_dash c f, m) next)
      where
        no_dash : (c : ℕ) {ts mid : List ℕ} → Spelled doctype_declaration (c ∷ ts) mid
            → (c == 45) ≡ false
        no_dash c f =
            false_from_ne_true (c == 45) (λ e. no_doctype_dash (rw (eqb-true c 45 e) at f))
