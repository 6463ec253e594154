-- The steps between the parts of the content, and in a reference, a comment, an instruction, a section or a form.
use Rattle.std.proofs.Common.{◌≡◌, ℕ, List, [], ◌∷◌, ◌++◌, refl, true, false, Some, ◌==◌}
use Rattle.xt_names.specs.declared.names.Binding.{Binding}
use Rattle.xt_tree.specs.declared.trees.Tree.{Tree}
use Rattle.doc_grammar.specs.Characters.{may_stand, brackets_behind}
use Rattle.doc_grammar.specs.RawNames.{RawName}
use Rattle.doc_grammar.specs.Scopes.{Opened}
use Rattle.doc_grammar.specs.Lexemes.{Misc, Section}
use Rattle.doc_grammar.specs.Lexemes as lexemes
use Rattle.doc_grammar.specs.Forms.{Form, FormStep, form_step}
use Rattle.doc_grammar.specs.Forms as form
use Rattle.doc_grammar.specs.Document.{Rules, Element, Level, begun, Top}
use Rattle.doc_grammar.specs.Document as doc
use Rattle.doc_grammar.specs.Lexing.{Ref, RefStep, ref_step, ampersand, Lex, LexStep, lex_step}
use Rattle.doc_grammar.specs.Lexing as lexing
use Rattle.doc_grammar.specs.Machine.{Stack, ground, element, refers, in_content, in_reference, in_marked, in_forming}
use Rattle.doc_grammar.proofs.CharacterFacts.{open_stands, ampersand_stands}
use Rattle.doc_grammar.proofs.Residue.{Inside, top, topped}
use Rattle.doc_grammar.proofs.Residue as residue
use Rattle.doc_grammar.proofs.LexRests.{node, said}
use Rattle.doc_grammar.proofs.ReferenceSteps.{RefGoes, references_go}
use Rattle.doc_grammar.proofs.LexSteps.{LexGoes}
use Rattle.doc_grammar.proofs.SectionSteps.{lexes_go}
use Rattle.doc_grammar.proofs.FormSteps.{FormGoes, forms_go}
use Rattle.doc_grammar.proofs.Rests.{InReference, InMarked, InForm}
use Rattle.doc_grammar.proofs.Goes.{Goes, choose, at}
use Rattle.xt_names.specs.Characters.{is_space}
use Rattle.xt_names.proofs.BoolLemmas.{no}

-- markup begins with `<`
misc_open : {c : ℕ} {ts rest : List ℕ} {tree : Tree} → Misc (c ∷ ts) tree rest → c ≡ 60
misc_open (lexemes.comment t) = refl
misc_open (lexemes.instruction t) = refl

section_opens : {c : ℕ} {ts text rest : List ℕ} → Section (c ∷ ts) text rest → c ≡ 60
section_opens (lexemes.section t) = refl

element_open : {rules : Rules} {k c : ℕ} {scope : List Binding} {ts rest : List ℕ} {n : Tree} → Element rules k scope (c ∷ ts) n rest → c ≡ 60
element_open (doc.empty h d a o) = refl
element_open (doc.full h d a o c e) = refl

-- how many `]` come before does not matter before `<`
pub any_brackets : {rules : Rules} {w : Tree} {n m : ℕ} {text ts : List ℕ} {st : Stack} → Inside rules w n text st (60 ∷ ts) → Inside rules w m text st (60 ∷ ts)
any_brackets (top t) = top t
any_brackets (residue.ends t u) = residue.ends t u
any_brackets {n = n} (residue.says p k) = no p (open_stands n)
any_brackets (residue.quotes s k) = residue.quotes s k
any_brackets (residue.child e k) = residue.child e k
any_brackets (residue.aside m k) = residue.aside m k

other : {c : ℕ} {P : Type 0} → (c == 60) ≡ false → c ≡ 60 → P
other e s = absurd (cc)

on_space : {rules : Rules} {w : Tree} {l : Level} {c : ℕ} {kids : List Tree} {ts : List ℕ} → (c == 60) ≡ false → Top rules l kids (c ∷ ts) w → (is_space c ≡ true) × Top rules (begun l) kids ts w
on_space e (doc.declares f k) = absurd (cc)
on_space e (doc.space s k) = (s, k)
on_space e (doc.aside m k) = other e (misc_open m)
on_space e (doc.types t f k) = absurd (cc)
on_space e (doc.root m el k) = other e (element_open el)

on_text : {rules : Rules} {w : Tree} {n c : ℕ} {ts text : List ℕ} {name : RawName} {o : Opened} {kids : List Tree} {st : Stack} → (c == 60) ≡ false → (c == 38) ≡ false → Inside rules w n text (element name o kids st) (c ∷ ts) → (may_stand n c ≡ true) × Inside rules w (brackets_behind n c) (text ++ c ∷ []) (element name o kids st) ts
on_text e a (residue.ends t u) = absurd (cc)
on_text e a (residue.says p k) = (p, k)
on_text e a (residue.refers r k) = absurd (cc)
on_text e a (residue.quotes s k) = other e (section_opens s)
on_text e a (residue.child el k) = other e (element_open el)
on_text e a (residue.aside m k) = other e (misc_open m)

on_reference : {rules : Rules} {w : Tree} {n : ℕ} {ts text : List ℕ} {name : RawName} {o : Opened} {kids : List Tree} {st : Stack} → Inside rules w n text (element name o kids st) (38 ∷ ts) → InReference rules w text ampersand (element name o kids st) ts
on_reference {n = n} (residue.says p k) = no p (ampersand_stands n)
on_reference (residue.refers r k) = record { stands_for = _; mid = _; reference = r; behind = k }
on_reference (residue.quotes s k) = other refl (section_opens s)
on_reference (residue.child el k) = other refl (element_open el)
on_reference (residue.aside m k) = other refl (misc_open m)

pub in_content_steps : (rules : Rules) (w : Tree) (n c : ℕ) (ts text : List ℕ) (st : Stack) → (c == 60) ≡ false → Goes rules w (Inside rules w n text st (c ∷ ts)) ts (in_content n text st c)
in_content_steps rules w n c ts text (ground l kids ds) e =
    choose rules w (Inside rules w n text (ground l kids ds) (c ∷ ts)) ts (is_space c) _ _
    (λ s. ((λ k. top (on_space e (topped k)).1), (λ k. top (doc.space s (topped k)))))
    (λ s k. no (on_space e (topped k)).0 s)
in_content_steps rules w n c ts text (element name o kids st) e =
    choose rules w (Inside rules w n text (element name o kids st) (c ∷ ts)) ts (c == 38) _ _
    (λ a. at rules w (Inside rules w n text (element name o kids st)) c 38 ts (Some (refers text ampersand (element name o kids st))) a ((λ k. on_reference k), (λ b. residue.refers b.reference b.behind)))
    (λ a. choose rules w (Inside rules w n text (element name o kids st) (c ∷ ts)) ts (may_stand n c) _ _
    (λ p. ((λ k. (on_text e a k).1), (λ k. residue.says p k)))
    (λ p k. no (on_text e a k).0 p))

-- in a reference

pub reference_steps : (rules : Rules) (w : Tree) (text : List ℕ) (r : Ref) (st : Stack) (c : ℕ) (ts : List ℕ) → Goes rules w (InReference rules w text r st (c ∷ ts)) ts (in_reference text st (ref_step r c))
reference_steps rules w text r st c ts = go (ref_step r c) (references_go r c ts) where
  go : (o : RefStep) → RefGoes r c ts o → Goes rules w (InReference rules w text r st (c ∷ ts)) ts (in_reference text st o)
  go (lexing.on r') k = (
    (λ b. record { stands_for = b.stands_for; mid = b.mid; reference = (k b.stands_for b.mid).0 b.reference; behind = b.behind }),
    (λ b. record { stands_for = b.stands_for; mid = b.mid; reference = (k b.stands_for b.mid).1 b.reference; behind = b.behind }),
  )
  go (lexing.stands_for v) k = (
    (λ b. let e = k.0 b.stands_for b.mid b.reference in rw (e.0, e.1) at b.behind),
    (λ b. record { stands_for = v; mid = ts; reference = k.1; behind = b }),
  )
  go lexing.fails k = λ b. k b.stands_for b.mid b.reference

-- in a comment, an instruction or a section

pub marked_steps : (rules : Rules) (w : Tree) (l : Lex) (text : List ℕ) (st : Stack) (c : ℕ) (ts : List ℕ) → Goes rules w (InMarked rules w l text st (c ∷ ts)) ts (in_marked text st (lex_step l c))
marked_steps rules w l text st c ts = go (lex_step l c) (lexes_go l c ts) where
  go : (o : LexStep) → LexGoes l c ts o → Goes rules w (InMarked rules w l text st (c ∷ ts)) ts (in_marked text st o)
  go (lexing.on l') k = (
    (λ b. record { made = b.made; mid = b.mid; lex = (k b.made b.mid).0 b.lex; behind = b.behind }),
    (λ b. record { made = b.made; mid = b.mid; lex = (k b.made b.mid).1 b.lex; behind = b.behind }),
  )
  go (lexing.makes n) k = (
    (λ b. let e = k.0 b.made b.mid b.lex in rw (e.0, e.1) at b.behind),
    (λ b. record { made = node n; mid = ts; lex = k.1; behind = b }),
  )
  go (lexing.says words) k = (
    (λ b. let e = k.0 b.made b.mid b.lex in rw (e.0, e.1) at b.behind),
    (λ b. record { made = said words; mid = ts; lex = k.1; behind = b }),
  )
  go lexing.fails k = λ b. k b.made b.mid b.lex

-- in a form

pub form_steps : (rules : Rules) (w : Tree) (f : Form) (st : Stack) (c : ℕ) (ts : List ℕ) → Goes rules w (InForm rules w f st (c ∷ ts)) ts (in_forming st (form_step f c))
form_steps rules w f st c ts = go (form_step f c) (forms_go f c ts) where
  go : (o : FormStep) → FormGoes f c ts o → Goes rules w (InForm rules w f st (c ∷ ts)) ts (in_forming st o)
  go (form.goes g) k = (
    (λ b. record { mid = b.mid; form = (k b.mid).0 b.form; behind = b.behind }),
    (λ b. record { mid = b.mid; form = (k b.mid).1 b.form; behind = b.behind }),
  )
  go form.done k = (
    (λ b. let e = k.0 b.mid b.form in rw e at b.behind),
    (λ b. record { mid = ts; form = k.1; behind = b }),
  )
  go form.fails k = λ b. k b.mid b.form
