-- What stands after `<`, and what it does to a reading.
use Rattle.std.proofs.Common.{◌≡◌, ℕ, List, [], ◌∷◌, ◌++◌, Bool, true, false, cond, Some, None, ◌==◌, refl, sym, ap, ◌∙◌, codes}
use Rattle.std.proofs.lemmas.Bool.{ne_eqb}
use Rattle.xt_names.specs.declared.names.Binding.{Binding}
use Rattle.xt_tree.specs.declared.trees.Tree.{Tree}
use Rattle.xt_tree.specs.declared.trees.Tree.TheVariants.{Comment, Pi}
use Rattle.doc_grammar.specs.Forms.{Form, FormStep, form_step, form_part}
use Rattle.doc_grammar.specs.Forms as form
use Rattle.doc_grammar.specs.Prolog.{xml_declaration, doctype_declaration}
use Rattle.doc_grammar.specs.Lexemes.{Named, NCName, is_target}
use Rattle.doc_grammar.specs.Lexemes as lexemes
use Rattle.doc_grammar.specs.Lexing.{dash, section_open, target_space, target_mark}
use Rattle.doc_grammar.specs.Scopes.{opened}
use Rattle.doc_grammar.specs.Document.{Level, typed, may_type}
use Rattle.doc_grammar.specs.Machine.{Stack, ground, element, State, content, tag, bang, question, targeting, marked, forming, declares, with_begun, with_aside, with_text, in_forming, stop_in_form, stops, other, step, stop_at}
use Rattle.xml_source.specs.Reading.{reads, Fails, Ran}
use Rattle.xml_source.specs.Asides.{LexEnd, made, said, stopped, lex_reads, target_reads}
use Rattle.xml_source.specs.Spelling.{FormEnd, form_goes, stands, spells, Spells}
use Rattle.xml_source.specs.Spelling as spelling
use Rattle.xml_source.specs.declared.steps.Step.{Step}
use Rattle.xml_source.specs.declared.steps.Step.TheVariants.{On, Stopped}
use Rattle.xml_source.proofs.ReadLemmas.{goes, stuck}
use Rattle.doc_reader.proofs.ContentLemmas.{IsElement}
use Rattle.doc_reader.proofs.AsideReads.{made_in, said_in, stopped_in}
use Rattle.doc_reader.proofs.FormReads.{ends_in, forming_reads}
use Rattle.doc_reader.proofs.ElementLemmas.{named_ends}
use Rattle.xt_names.specs.Characters.{is_space, starts_name, is_name_char, Ends, NotNext}

-- `<`

open_step : (n : ℕ) (text : List ℕ) (st : Stack) → step opened (content n text st) 60 ≡ Some (tag text st)
unfolding step
open_step n text st = refl

pub opens_tag : (old new text : List ℕ) (st : Stack) → old ≡ 60 ∷ new → reads old (content 0 text st) ≡ reads new (tag text st)
opens_tag old new text st e = ap (λ (x : List ℕ). reads x (content 0 text st)) e ∙ goes _ _ 60 new (open_step 0 text st)

-- `!`, `<!-` and `<![`

bang_step : (text : List ℕ) (st : Stack) → step opened (tag text st) 33 ≡ Some (bang text st)
unfolding step
bang_step text st = refl

pub to_bang : (old new text : List ℕ) (st : Stack) → old ≡ 33 ∷ new → reads old (tag text st) ≡ reads new (bang text st)
to_bang old new text st e = ap (λ (x : List ℕ). reads x (tag text st)) e ∙ goes _ _ 33 new (bang_step text st)

dash_step : (text : List ℕ) (st : Stack) → step opened (bang text st) 45 ≡ Some (marked dash text st)
unfolding step
dash_step text st = refl

pub to_comment : (old new text : List ℕ) (st : Stack) → old ≡ 45 ∷ new → reads old (bang text st) ≡ reads new (marked dash text st)
to_comment old new text st e = ap (λ (x : List ℕ). reads x (bang text st)) e ∙ goes _ _ 45 new (dash_step text st)

section_step : (text : List ℕ) (st : Stack) → IsElement st → step opened (bang text st) 91 ≡ Some (marked (section_open (codes "CDATA[")) text st)
unfolding step
section_step text (ground l kids ds) i = absurd i
section_step text (element name o kids st) i = refl

pub to_section : (old new text : List ℕ) (st : Stack) → IsElement st → old ≡ 91 ∷ new → reads old (bang text st) ≡ reads new (marked (section_open (codes "CDATA[")) text st)
to_section old new text st i e = ap (λ (x : List ℕ). reads x (bang text st)) e ∙ goes _ _ 91 new (section_step text st i)

no_section_step : (text : List ℕ) (st : Stack) (c : ℕ) → IsElement st → (c ≡ 45 → ⊥) → (c ≡ 91 → ⊥) → step opened (bang text st) c ≡ None
unfolding step
no_section_step text (ground l kids ds) c i d b = absurd i
no_section_step text (element name o kids st) c i d b = rw (ne_eqb c 45 d, ne_eqb c 91 b) refl

no_section_at : (old text : List ℕ) (st : Stack) → IsElement st → NotNext 45 old → NotNext 91 old → Fails (reads old (bang text st)) old
no_section_at [] text st i d b = refl
no_section_at (c ∷ cs) text st i d b = stuck _ c cs (no_section_step text st c i (λ s. d (sym s)) (λ s. b (sym s)))

pub no_section : (old new text : List ℕ) (st : Stack) → IsElement st → NotNext 45 old → (new ≡ old) × NotNext 91 old → Fails (reads old (bang text st)) new
no_section old new text st i d e = rw e.0 (no_section_at old text st i d e.1)

-- a DOCTYPE

doctype_step : (text : List ℕ) (l : Level) (kids : List Tree) (ds : List (List Binding)) (c : ℕ) → may_type l ≡ true → (c == 45) ≡ false → step opened (bang text (ground l kids ds)) c ≡ in_forming (ground typed kids ds) (form_step doctype_declaration c)
unfolding step
doctype_step text l kids ds c m d = rw (d, m) refl

doctype_part : (c : ℕ) → stop_in_form (form_part doctype_declaration c) c ≡ other
unfolding doctype_declaration
doctype_part c = refl

-- a form that begins in another state
begins_form : (f : Form) (s : State) (st : Stack) → ((c : ℕ) → stop_in_form (form_part f c) c ≡ other) → ((c : ℕ) → stop_at s c ≡ other) → (ts : List ℕ) → ((c : ℕ) (cs : List ℕ) → ts ≡ c ∷ cs → step opened s c ≡ in_forming st (form_step f c)) → reads [] s ≡ stops other []
    → ends_in (spells ts f) st ts s
begins_form f s st p w [] k e = e
begins_form f s st p w (c ∷ cs) k e = go (form_step f c) refl where
  go : (r : FormStep) → form_step f c ≡ r → ends_in (form_goes (spells cs) cs (spelling.stops (stop_in_form (form_part f c) c) (c ∷ cs)) r) st (c ∷ cs) s
  go (form.goes g) d = on (spells cs g) (forming_reads cs g st) where
    same : reads (c ∷ cs) s ≡ reads cs (forming g st)
    same = goes _ _ c cs (k c cs refl ∙ ap (in_forming st) d)

    on : (e : FormEnd) → ends_in e st cs (forming g st) → ends_in e st (c ∷ cs) s
    on (stands new) x = same ∙ x
    on (spelling.stops why new) x = same ∙ x
  go form.done d = goes _ _ c cs (k c cs refl ∙ ap (in_forming st) d)
  go form.fails d = stuck _ c cs (k c cs refl ∙ ap (in_forming st) d) ∙ ap (λ x. stops x (c ∷ cs)) (w c ∙ sym (p c))

-- what a form did to the reading
form_ran : (r : Step) (f : Form) (ts new : List ℕ) (st : Stack) (s : State) → ends_in (spells ts f) st ts s → Spells ts f r new → Ran (reads ts s) new (content 0 [] st) r
form_ran On f ts new st s k e = rw e at k
form_ran (Stopped why) f ts new st s k e = rw e at k

pub doctype_ran : (r : Step) (old new text : List ℕ) (l : Level) (kids : List Tree) (ds : List (List Binding)) → may_type l ≡ true → NotNext 45 old → Spells old doctype_declaration r new
    → Ran (reads old (bang text (ground l kids ds))) new (content 0 [] (ground typed kids ds)) r
doctype_ran r old new text l kids ds m n e =
    form_ran r doctype_declaration old new (ground typed kids ds) (bang text (ground l kids ds))
    (begins_form doctype_declaration (bang text (ground l kids ds)) (ground typed kids ds) doctype_part (λ c. refl) old (λ c cs same. doctype_step text l kids ds c m (ne_eqb c 45 (λ s. (rw same at n) (sym s)))) refl) e

no_doctype_step : (text : List ℕ) (l : Level) (kids : List Tree) (ds : List (List Binding)) (c : ℕ) → may_type l ≡ false → (c == 45) ≡ false → step opened (bang text (ground l kids ds)) c ≡ None
unfolding step
no_doctype_step text l kids ds c m d = rw (d, m) refl

pub no_doctype : (old text : List ℕ) (l : Level) (kids : List Tree) (ds : List (List Binding)) → may_type l ≡ false → NotNext 45 old → Fails (reads old (bang text (ground l kids ds))) old
no_doctype [] text l kids ds m n = refl
no_doctype (c ∷ cs) text l kids ds m n = stuck _ c cs (no_doctype_step text l kids ds c m (ne_eqb c 45 (λ s. n (sym s))))

-- `?`, and a target

question_step : (text : List ℕ) (st : Stack) → step opened (tag text st) 63 ≡ Some (question text st)
unfolding step
question_step text st = refl

pub to_question : (old new text : List ℕ) (st : Stack) → old ≡ 63 ∷ new → reads old (tag text st) ≡ reads new (question text st)
to_question old new text st e = ap (λ (x : List ℕ). reads x (tag text st)) e ∙ goes _ _ 63 new (question_step text st)

target_step : (text : List ℕ) (st : Stack) (c : ℕ) → starts_name c ≡ true → step opened (question text st) c ≡ Some (targeting (c ∷ []) text st)
unfolding step
target_step text st c s = rw s refl

no_target_step : (text : List ℕ) (st : Stack) (c : ℕ) → starts_name c ≡ false → step opened (question text st) c ≡ None
unfolding step
no_target_step text st c s = rw s refl

no_target_at : (old text : List ℕ) (st : Stack) → Ends starts_name old → Fails (reads old (question text st)) old
no_target_at [] text st e = refl
no_target_at (c ∷ cs) text st e = stuck _ c cs (no_target_step text st c e)

pub no_target : (first old new text : List ℕ) (st : Stack) → first ≡ 63 ∷ old → (new ≡ old) × Ends starts_name old → Fails (reads first (tag text st)) new
no_target first old new text st f e = rw e.0 (to_question first old text st f ∙ no_target_at old text st e.1)

naming_step : (target text : List ℕ) (st : Stack) (c : ℕ) → is_name_char c ≡ true → step opened (targeting target text st) c ≡ Some (targeting (target ++ c ∷ []) text st)
unfolding step
naming_step target text st c p = rw p refl

named : {read ts name rest : List ℕ} (text : List ℕ) (st : Stack) → Named read ts name rest → reads ts (targeting read text st) ≡ reads rest (targeting name text st)
named text st (lexemes.more {c = c} {read = read} {ts = ts} p n) = goes _ _ c ts (naming_step read text st c p) ∙ named text st n
named text st (lexemes.whole e) = refl

target_of : {ts name rest : List ℕ} (text : List ℕ) (st : Stack) → NCName ts name rest → reads ts (question text st) ≡ reads rest (targeting name text st)
target_of text st (lexemes.ncname {c = c} {ts = ts} s d) = goes _ _ c ts (target_step text st c s) ∙ named text st d

pub target_ends : {ts name rest : List ℕ} → NCName ts name rest → Ends is_name_char rest
target_ends (lexemes.ncname s d) = named_ends d

pub to_target : (first old target new text : List ℕ) (st : Stack) → first ≡ 63 ∷ old → NCName old target new → reads first (tag text st) ≡ reads new (targeting target text st)
to_target first old target new text st f n = to_question first old text st f ∙ target_of text st n

-- the XML declaration

declares_step : (target text : List ℕ) (st : Stack) (c : ℕ) → is_name_char c ≡ false → declares st target ≡ true → step opened (targeting target text st) c ≡ in_forming (with_begun st) (form_step xml_declaration c)
unfolding step
declares_step target text st c p d = rw (p, d) refl

declaration_part : (c : ℕ) → stop_in_form (form_part xml_declaration c) c ≡ other
unfolding xml_declaration
declaration_part c = refl

next_ends : (p : ℕ → Bool) (ts : List ℕ) (c : ℕ) (cs : List ℕ) → Ends p ts → ts ≡ c ∷ cs → p c ≡ false
next_ends p ts c cs e same = rw same at e

pub declaration_ran : (r : Step) (old new target text : List ℕ) (st : Stack) → declares st target ≡ true → Ends is_name_char old → Spells old xml_declaration r new → Ran (reads old (targeting target text st)) new (content 0 [] (with_begun st)) r
declaration_ran r old new target text st d n e =
    form_ran r xml_declaration old new (with_begun st) (targeting target text st)
    (begins_form xml_declaration (targeting target text st) (with_begun st) declaration_part (λ c. refl) old (λ c cs same. declares_step target text st c (next_ends is_name_char old c cs n same) d) refl) e

-- an instruction

plain_step : (target text : List ℕ) (st : Stack) (c : ℕ) → is_name_char c ≡ false → declares st target ≡ false → is_target target ≡ true
    → step opened (targeting target text st) c ≡ cond (is_space c) (Some (marked (target_space target) text st)) (cond (c == 63) (Some (marked (target_mark target) text st)) None)
unfolding step
plain_step target text st c p d t = rw (p, d, t) refl

no_target_name_step : (target text : List ℕ) (st : Stack) (c : ℕ) → is_name_char c ≡ false → declares st target ≡ false → is_target target ≡ false → step opened (targeting target text st) c ≡ None
unfolding step
no_target_name_step target text st c p d t = rw (p, d, t) refl

pub no_target_name : (old target text : List ℕ) (st : Stack) → Ends is_name_char old → declares st target ≡ false → is_target target ≡ false → Fails (reads old (targeting target text st)) old
no_target_name [] target text st n d t = refl
no_target_name (c ∷ cs) target text st n d t = stuck _ c cs (no_target_name_step target text st c n d t)

choose : (P : Type 0) (b : Bool) → (b ≡ true → P) → (b ≡ false → P) → P
choose P true f g = f refl
choose P false f g = g refl

-- how the reading of an instruction ends
abbrev InstructionEnds : LexEnd → List ℕ → List ℕ → State → Stack → Type 0
InstructionEnds e ts text s st =
    ((n : Tree) (new : List ℕ) → e ≡ made n new → reads ts s ≡ reads new (content 0 [] (with_aside n (with_text text st)))) × ((new : List ℕ) → e ≡ stopped new → Fails (reads ts s) new)

instruction_at : (old target text : List ℕ) (st : Stack) → Ends is_name_char old → declares st target ≡ false → is_target target ≡ true → InstructionEnds (target_reads old target) old text (targeting target text st) st
instruction_at [] target text st n d t = (λ x new e. absurd (let both : stopped [] ≡ made x new = e in cc), λ new e. (let rest : [] ≡ new = cc in ap (λ x. stops other x) rest))
instruction_at (c ∷ cs) target text st n d t =
    choose (InstructionEnds (target_reads (c ∷ cs) target) (c ∷ cs) text (targeting target text st) st) (is_space c)
    (λ s. (
    let go : reads (c ∷ cs) (targeting target text st) ≡ reads cs (marked (target_space target) text st) = goes _ _ c cs (plain_step target text st c n d t ∙ rw s refl) in
    let same : target_reads (c ∷ cs) target ≡ lex_reads cs (target_space target) = rw s refl in
    (λ x new e. go ∙ made_in cs new (target_space target) x text st (sym same ∙ e), λ new e. go ∙ stopped_in cs new (target_space target) text st (sym same ∙ e))
    ))
    (λ s. choose (InstructionEnds (target_reads (c ∷ cs) target) (c ∷ cs) text (targeting target text st) st) (c == 63)
    (λ m. (
    let go : reads (c ∷ cs) (targeting target text st) ≡ reads cs (marked (target_mark target) text st) = goes _ _ c cs (plain_step target text st c n d t ∙ rw (s, m) refl) in
    let same : target_reads (c ∷ cs) target ≡ lex_reads cs (target_mark target) = rw (s, m) refl in
    (λ x new e. go ∙ made_in cs new (target_mark target) x text st (sym same ∙ e), λ new e. go ∙ stopped_in cs new (target_mark target) text st (sym same ∙ e))
    ))
    (λ m. (
    let halt : reads (c ∷ cs) (targeting target text st) ≡ stops other (c ∷ cs) = stuck _ c cs (plain_step target text st c n d t ∙ rw (s, m) refl) in
    let same : target_reads (c ∷ cs) target ≡ stopped (c ∷ cs) = rw (s, m) refl in
    (λ x new e. absurd (let both : stopped (c ∷ cs) ≡ made x new = sym same ∙ e in cc), λ new e. (let both : stopped (c ∷ cs) ≡ stopped new = sym same ∙ e in let rest : c ∷ cs ≡ new = cc in halt ∙ ap (λ x. stops other x) rest))
    )))

pub instruction_made : (old new target text : List ℕ) (n : Tree) (st : Stack) → Ends is_name_char old → declares st target ≡ false → is_target target ≡ true → target_reads old target ≡ made n new
    → reads old (targeting target text st) ≡ reads new (content 0 [] (with_aside n (with_text text st)))
instruction_made old new target text n st e d t r = (instruction_at old target text st e d t).0 n new r

pub instruction_stops : (old new target text : List ℕ) (st : Stack) → Ends is_name_char old → declares st target ≡ false → is_target target ≡ true → target_reads old target ≡ stopped new → Fails (reads old (targeting target text st)) new
instruction_stops old new target text st e d t r = (instruction_at old target text st e d t).1 new r

-- a section in the content
pub section_said : (old mid new more text text' : List ℕ) (st : Stack) → IsElement st → old ≡ 91 ∷ mid → lex_reads mid (section_open (codes "CDATA[")) ≡ said more new → text' ≡ text ++ more → reads old (bang text st) ≡ reads new (content 0 text' st)
section_said old mid new more text text' st i o e t =
    to_section old mid text st i o ∙ said_in mid new (section_open (codes "CDATA[")) more text st e ∙ ap (λ (x : List ℕ). reads new (content 0 x st)) (sym t)

pub section_stops : (old mid new text : List ℕ) (st : Stack) → IsElement st → old ≡ 91 ∷ mid → lex_reads mid (section_open (codes "CDATA[")) ≡ stopped new → Fails (reads old (bang text st)) new
section_stops old mid new text st i o e = to_section old mid text st i o ∙ stopped_in mid new (section_open (codes "CDATA[")) text st e

-- a comment that is put after what is open
pub comment_made : (old mid new said_text made_text text : List ℕ) (st : Stack) (s : State) → lex_reads old dash ≡ made (Comment said_text) mid → made_text ≡ said_text → s ≡ content 0 [] (with_aside (Comment made_text) (with_text text st)) → new ≡ mid
    → reads old (marked dash text st) ≡ reads new s
comment_made old mid new said_text made_text text st s e m h n =
    made_in old mid dash (Comment said_text) text st e ∙ ap (λ (x : List ℕ). reads mid (content 0 [] (with_aside (Comment x) (with_text text st)))) (sym m) ∙ ap (reads mid) (sym h) ∙ ap (λ (x : List ℕ). reads x s) (sym n)

-- an instruction that is put after what is open
pub instruction_put : (old mid new target said_text made_target made_text text : List ℕ) (st : Stack) (s : State) → Ends is_name_char old → declares st target ≡ false → is_target target ≡ true → target_reads old target ≡ made (Pi target said_text) mid
    → made_target ≡ target → made_text ≡ said_text → s ≡ content 0 [] (with_aside (Pi made_target made_text) (with_text text st)) → new ≡ mid → reads old (targeting target text st) ≡ reads new s
instruction_put old mid new target said_text made_target made_text text st s e d t r a b h n =
    instruction_made old mid target text (Pi target said_text) st e d t r ∙ ap (λ (x : List ℕ). reads mid (content 0 [] (with_aside (Pi target x) (with_text text st)))) (sym b)
    ∙ ap (λ (x : List ℕ). reads mid (content 0 [] (with_aside (Pi x made_text) (with_text text st)))) (sym a) ∙ ap (reads mid) (sym h) ∙ ap (λ (x : List ℕ). reads x s) (sym n)
