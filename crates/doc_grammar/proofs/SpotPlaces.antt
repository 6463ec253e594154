-- Where markup may begin, and where a reference may, the reader is in content, or in a value.
use Rattle.std.proofs.Common.{◌≡◌, ℕ, List, [], ◌∷◌, ◌++◌, refl, sym, subst, ap, ◌∙◌, Bool, true, false, cond, not, ◌==◌, eq-eqb, Option, Some, None}
use Rattle.std.specs.Option.{option_and_then}
use Rattle.std.proofs.lemmas.Bool.{eqb-true}
use Rattle.xt_names.specs.Classes.{is_in_ranges}
use Rattle.doc_grammar.specs.Characters.{is_text, is_value, as_value, may_stand, decimal, hexadecimal, digit}
use Rattle.doc_grammar.specs.RawNames.{RawName, RawTag, with_attribute}
use Rattle.doc_grammar.specs.Lexemes.{is_target}
use Rattle.doc_grammar.specs.Forms.{Form, FormStep, form_step}
use Rattle.doc_grammar.specs.Forms as form
use Rattle.doc_grammar.specs.Prolog.{xml_declaration, doctype_declaration}
use Rattle.doc_grammar.specs.Document.{blank, fresh, typed, rooted}
use Rattle.doc_grammar.specs.Lexing.{Ref, RefStep, ref_step, spelling_step, ampersand, letter_a, spelling, hash, hash_x, number, Lex, LexStep, lex_step, section_open_step, dash, comment, comment_dash, comment_dashes, section_open, section, section_bracket, section_brackets, target_mark, target_space, instruction, instruction_mark}
use Rattle.doc_grammar.specs.Lexing as lexing
use Rattle.doc_grammar.specs.Machine.{Stack, ground, element, reading, coloned, State, content, refers, tag, bang, question, targeting, marked, forming, naming, tagged, spaced, attribute, equals, assigned, valued, value_refers, slashed, ending, ended, in_reference, in_value_reference, in_marked, in_forming, declares, behind_ending, in_ended, step}
use Rattle.doc_grammar.specs.Skeleton.{anyhow, after}
use Rattle.doc_grammar.proofs.SpotForms.{calm, SpaceToo, space_too}
use Rattle.doc_grammar.proofs.SpotHistory.{InDoctype, InXml, PastForm, in_doctype, in_xml, Past}
use Rattle.xt_names.specs.Characters.{is_space, is_char, is_quote, starts_name, is_name_char}
use Rattle.xt_names.proofs.BoolLemmas.{no}

-- after the step with a character
abbrev Next : ℕ → Option State → Option State
Next c o = option_and_then (after anyhow (c ∷ [])) o

-- the reader takes either of two characters next, but no space
pub record TakesOn (a b : ℕ) (o : Option State) : Type 0 where
  pub on_a : Next a o ≡ None → ⊥
  pub on_b : Next b o ≡ None → ⊥
  pub no_space : (t : State) → Next 32 o ≡ Some t → ⊥

fails_on : (P : Type 0) (a b : ℕ) (o : Option State) → o ≡ None → TakesOn a b o → P
fails_on P a b o e k = absurd (k.on_a (ap (Next a) e))

none_on : (P : Type 0) (a b : ℕ) → TakesOn a b None → P
none_on P a b k = absurd (k.on_a refl)

space_on : (P : Type 0) (a b : ℕ) (o : Option State) (t : State) → Next 32 o ≡ Some t → TakesOn a b o → P
space_on P a b o t e k = absurd (k.no_space t e)

either : {A : Type 0} (P : Type 0) (a b : ℕ) (K : A → Option State) (c : Bool) (x y : A) → (TakesOn a b (K x) → P) → (TakesOn a b (K y) → P) → TakesOn a b (K (cond c x y)) → P
either P a b K true x y f g k = f k
either P a b K false x y f g k = g k

-- a letter of a word is one character
one_letter : (P : Type 0) (a b e : ℕ) (s : State) → (a == b) ≡ false → ((c : ℕ) → (c == e) ≡ false → step anyhow s c ≡ None) → TakesOn a b (Some s) → P
one_letter P a b e s n h k = go (a == e) (b == e) refl refl
  where
    go : (x y : Bool) → (a == e) ≡ x → (b == e) ≡ y → P
    go false y i j = absurd (k.on_a (ap (option_and_then (after anyhow [])) (h a i)))
    go true false i j = absurd (k.on_b (ap (option_and_then (after anyhow [])) (h b j)))
    go true true i j = no (eq-eqb a b (eqb-true a e i ∙ sym (eqb-true b e j))) n

content_space : (n : ℕ) (text : List ℕ) (st : Stack) → (t : State) × (Next 32 (Some (content n text st)) ≡ Some t)
unfolding step may_stand is_text is_char is_in_ranges is_space
content_space n text (ground l kids ds) = (_, refl)
content_space n text (element name o kids st) = (_, refl)

-- references

-- what a step in a reference does to the reader
record Reads (K : RefStep → Option State) (z : Ref → State) : Type 0 where
  on_fails : K lexing.fails ≡ None
  on_goes : (r : Ref) → K (lexing.on r) ≡ Some (z r)
  steps : (r : Ref) (c : ℕ) → step anyhow (z r) c ≡ K (ref_step r c)
  spaces : (v : ℕ) → (t : State) × (Next 32 (K (lexing.stands_for v)) ≡ Some t)

text_reads : (text : List ℕ) (st : Stack) → Reads (in_reference text st) (λ r. refers text r st)
unfolding step
text_reads text st = record { on_fails = refl; on_goes = λ r. refl; steps = λ r c. refl; spaces = λ v. content_space 0 (text ++ v ∷ []) st }

valued_space : (t : RawTag) (name : RawName) (quote : ℕ) (read : List ℕ) (st : Stack) → (x : State) × (Next 32 (Some (valued t name quote read st)) ≡ Some x)
unfolding step is_value is_text is_char is_in_ranges
valued_space t name quote read st = go (32 == quote)
  where
    go : (b : Bool) → (x : State) × (option_and_then (after anyhow []) (cond b (Some (tagged (with_attribute t name read) st)) (cond (not b) (Some (valued t name quote (read ++ as_value 32 ∷ []) st)) None)) ≡ Some x)
    go true = (_, refl)
    go false = (_, refl)

value_reads : (t : RawTag) (name : RawName) (quote : ℕ) (read : List ℕ) (st : Stack) → Reads (in_value_reference t name quote read st) (λ r. value_refers t name quote read r st)
unfolding step
value_reads t name quote read st = record { on_fails = refl; on_goes = λ r. refl; steps = λ r c. refl; spaces = λ v. valued_space t name quote (read ++ v ∷ []) st }

word_stops : (e : ℕ) (left : List ℕ) (v c : ℕ) → (c == e) ≡ false → spelling_step (e ∷ left) v c ≡ lexing.fails
word_stops e [] v c n = rw n refl
word_stops e (f ∷ left) v c n = rw n refl

abbrev is_word : Ref → Bool
is_word ampersand = false
is_word letter_a = false
is_word (spelling left v) = true
is_word hash = false
is_word hash_x = false
is_word (number b n) = false

open_shut : (r : Ref) → is_word r ≡ false → ref_step r 60 ≡ lexing.fails
unfolding digit
open_shut ampersand e = refl
open_shut letter_a e = refl
open_shut (spelling left v) e = absurd (cc)
open_shut hash e = refl
open_shut hash_x e = refl
open_shut (number decimal n) e = refl
open_shut (number hexadecimal n) e = refl

ampersand_shut : (r : Ref) → is_word r ≡ false → ref_step r 38 ≡ lexing.fails
unfolding digit
ampersand_shut ampersand e = refl
ampersand_shut letter_a e = refl
ampersand_shut (spelling left v) e = absurd (cc)
ampersand_shut hash e = refl
ampersand_shut hash_x e = refl
ampersand_shut (number decimal n) e = refl
ampersand_shut (number hexadecimal n) e = refl

no_reference : (P : Type 0) (a b d : ℕ) (K : RefStep → Option State) (z : Ref → State) → Reads K z → (a == b) ≡ false → ((r : Ref) → is_word r ≡ false → ref_step r d ≡ lexing.fails) → (r : Ref) → TakesOn a b (K (ref_step r d)) → P
no_reference P a b d K z k n shut ampersand = fails_on P a b _ (ap K (shut ampersand refl) ∙ k.on_fails)
no_reference P a b d K z k n shut letter_a = fails_on P a b _ (ap K (shut letter_a refl) ∙ k.on_fails)
no_reference P a b d K z k n shut (spelling [] v) = fails_on P a b _ k.on_fails
no_reference P a b d K z k n shut (spelling (e ∷ []) v) =
    either P a b K (d == e) (lexing.stands_for v) lexing.fails (let s = k.spaces v in space_on P a b _ s.0 s.1) (fails_on P a b _ k.on_fails)
no_reference P a b d K z k n shut (spelling (e ∷ f ∷ left) v) =
    either P a b K (d == e) (lexing.on (spelling (f ∷ left) v)) lexing.fails
    (λ t.
    let Q : Option State → Type 0 = λ o. TakesOn a b o in
    one_letter P a b f (z (spelling (f ∷ left) v)) n (λ c m. k.steps (spelling (f ∷ left) v) c ∙ ap K (word_stops f left v c m) ∙ k.on_fails) (subst Q (k.on_goes (spelling (f ∷ left) v)) t))
    (fails_on P a b _ k.on_fails)
no_reference P a b d K z k n shut hash = fails_on P a b _ (ap K (shut hash refl) ∙ k.on_fails)
no_reference P a b d K z k n shut hash_x = fails_on P a b _ (ap K (shut hash_x refl) ∙ k.on_fails)
no_reference P a b d K z k n shut (number x m) = fails_on P a b _ (ap K (shut (number x m) refl) ∙ k.on_fails)

-- comments, instructions and sections

lexed_space : (text : List ℕ) (st : Stack) (l : Lex) → (t : Lex) → lex_step l 32 ≡ lexing.on t → (x : State) × (Next 32 (Some (marked l text st)) ≡ Some x)
unfolding step
lexed_space text st l t e = (marked t text st, rw e refl)

section_stops : (e : ℕ) (left : List ℕ) (c : ℕ) → (c == e) ≡ false → section_open_step (e ∷ left) c ≡ lexing.fails
section_stops e [] c n = rw n refl
section_stops e (f ∷ left) c n = rw n refl

no_word : (P : Type 0) (a b d : ℕ) (text : List ℕ) (st : Stack) → (a == b) ≡ false → (left : List ℕ) → TakesOn a b (in_marked text st (section_open_step left d)) → P
unfolding step is_char is_in_ranges
no_word P a b d text st n [] = none_on P a b
no_word P a b d text st n (e ∷ []) =
    either P a b (in_marked text st) (d == e) (lexing.on (section [])) lexing.fails (space_on P a b _ _ refl) (none_on P a b)
no_word P a b d text st n (e ∷ f ∷ left) =
    either P a b (in_marked text st) (d == e) (lexing.on (section_open (f ∷ left))) lexing.fails
    (one_letter P a b f (marked (section_open (f ∷ left)) text st) n (λ c m. ap (in_marked text st) (section_stops f left c m)))
    (none_on P a b)

no_open_mark : (P : Type 0) (a b : ℕ) (text : List ℕ) (st : Stack) → (a == b) ≡ false → (l : Lex) → TakesOn a b (in_marked text st (lex_step l 60)) → P
unfolding step is_char is_in_ranges is_space
no_open_mark P a b text st n dash = none_on P a b
no_open_mark P a b text st n (comment read) = space_on P a b _ _ refl
no_open_mark P a b text st n (comment_dash read) = space_on P a b _ _ refl
no_open_mark P a b text st n (comment_dashes read) = none_on P a b
no_open_mark P a b text st n (section_open left) = no_word P a b 60 text st n left
no_open_mark P a b text st n (section read) = space_on P a b _ _ refl
no_open_mark P a b text st n (section_bracket read) = space_on P a b _ _ refl
no_open_mark P a b text st n (section_brackets read) = space_on P a b _ _ refl
no_open_mark P a b text st n (target_mark target) = none_on P a b
no_open_mark P a b text st n (target_space target) = space_on P a b _ _ refl
no_open_mark P a b text st n (instruction target read) = space_on P a b _ _ refl
no_open_mark P a b text st n (instruction_mark target read) = space_on P a b _ _ refl

no_reference_mark : (P : Type 0) (a b : ℕ) (text : List ℕ) (st : Stack) → (a == b) ≡ false → (l : Lex) → TakesOn a b (in_marked text st (lex_step l 38)) → P
unfolding step is_char is_in_ranges is_space
no_reference_mark P a b text st n dash = none_on P a b
no_reference_mark P a b text st n (comment read) = space_on P a b _ _ refl
no_reference_mark P a b text st n (comment_dash read) = space_on P a b _ _ refl
no_reference_mark P a b text st n (comment_dashes read) = none_on P a b
no_reference_mark P a b text st n (section_open left) = no_word P a b 38 text st n left
no_reference_mark P a b text st n (section read) = space_on P a b _ _ refl
no_reference_mark P a b text st n (section_bracket read) = space_on P a b _ _ refl
no_reference_mark P a b text st n (section_brackets read) = space_on P a b _ _ refl
no_reference_mark P a b text st n (target_mark target) = none_on P a b
no_reference_mark P a b text st n (target_space target) = space_on P a b _ _ refl
no_reference_mark P a b text st n (instruction target read) = space_on P a b _ _ refl
no_reference_mark P a b text st n (instruction_mark target read) = space_on P a b _ _ refl

-- forms, targets and end tags

no_form_mark : (P : Type 0) (a b d : ℕ) (g : Form) (st : Stack) → calm d g ≡ true → TakesOn a b (in_forming st (form_step g d)) → P
unfolding step
no_form_mark P a b d g st h = go (form_step g d) (space_too d g h)
  where
    go : (o : FormStep) → SpaceToo o → TakesOn a b (in_forming st o) → P
    go (form.goes f) s = space_on P a b (Some (forming f st)) (forming s.0 st) (rw s.1 refl)
    go form.done s = absurd s
    go form.fails s = none_on P a b

no_ending : (P : Type 0) (a b d : ℕ) (st : Stack) → (a == b) ≡ false → (after anyhow (a ∷ []) (ending [] st) ≡ None) → (left : List ℕ) → (in_ended st d ≡ None) → TakesOn a b (behind_ending left st d) → P
unfolding step
no_ending P a b d st n shut [] e = fails_on P a b _ e
no_ending P a b d st n shut (e ∷ []) h =
    either P a b (λ o. o) (d == e) (Some (ending [] st)) None (λ k. absurd (k.on_a shut)) (none_on P a b)
no_ending P a b d st n shut (e ∷ f ∷ left) h =
    either P a b (λ o. o) (d == e) (Some (ending (f ∷ left) st)) None (one_letter P a b f (ending (f ∷ left) st) n (λ c m. rw m refl)) (none_on P a b)

-- each state

abbrev pub IsContent : State → Type 0
IsContent (content n text st) = Unit {0}
IsContent s = ⊥

-- in the content of an element, or in a value whose quote is no `&`
abbrev pub IsReferring : State → Type 0
IsReferring (content n text (element name o kids st)) = Unit {0}
IsReferring (valued t name quote read st) = (38 == quote) ≡ false
IsReferring s = ⊥

form_calm : (d : ℕ) (front : List ℕ) (g : Form) → ((p : InDoctype front g) → calm d g ≡ true) → ((p : InXml front g) → calm d g ≡ true) → PastForm front g → calm d g ≡ true
form_calm d front g f h (in_doctype p) = f p
form_calm d front g f h (in_xml p) = h p

open_calm : (front : List ℕ) (g : Form) → PastForm front g → calm 60 g ≡ true
open_calm front g p = form_calm 60 front g (λ q. q.open_calm) (λ q. q.open_calm) p

reference_calm : (front : List ℕ) (g : Form) → PastForm front g → calm 38 g ≡ true
reference_calm front g p = form_calm 38 front g (λ q. q.reference_calm) (λ q. q.reference_calm) p

pub markup_place : (front : List ℕ) (s : State) → Past front s → TakesOn 33 63 (step anyhow s 60) → IsContent s
unfolding step is_space starts_name is_name_char is_value is_text is_char is_in_ranges is_quote xml_declaration doctype_declaration
markup_place front (content n text st) p k = tt
markup_place front (refers text r st) p k = no_reference ⊥ 33 63 60 (in_reference text st) (λ x. refers text x st) (text_reads text st) refl open_shut r k
markup_place front (tag text st) p k = none_on ⊥ 33 63 k
markup_place front (bang text (ground blank kids ds)) p k = none_on ⊥ 33 63 k
markup_place front (bang text (ground fresh kids ds)) p k = none_on ⊥ 33 63 k
markup_place front (bang text (ground typed kids ds)) p k = none_on ⊥ 33 63 k
markup_place front (bang text (ground rooted kids ds)) p k = none_on ⊥ 33 63 k
markup_place front (bang text (element name o kids st)) p k = none_on ⊥ 33 63 k
markup_place front (question text st) p k = none_on ⊥ 33 63 k
markup_place front (targeting target text st) p k =
    either ⊥ 33 63 (λ x. x) (declares st target) None (cond (is_target target) None None) (none_on ⊥ 33 63) (either ⊥ 33 63 (λ x. x) (is_target target) None None (none_on ⊥ 33 63) (none_on ⊥ 33 63)) k
markup_place front (marked l text st) p k = no_open_mark ⊥ 33 63 text st refl l k
markup_place front (forming g st) p k = no_form_mark ⊥ 33 63 60 g st (open_calm front g p) k
markup_place front (naming (reading None read) st) p k = none_on ⊥ 33 63 k
markup_place front (naming (reading (Some prefix) read) st) p k = none_on ⊥ 33 63 k
markup_place front (naming (coloned prefix) st) p k = none_on ⊥ 33 63 k
markup_place front (tagged t st) p k = none_on ⊥ 33 63 k
markup_place front (spaced t st) p k = none_on ⊥ 33 63 k
markup_place front (attribute t (reading None read) st) p k = none_on ⊥ 33 63 k
markup_place front (attribute t (reading (Some prefix) read) st) p k = none_on ⊥ 33 63 k
markup_place front (attribute t (coloned prefix) st) p k = none_on ⊥ 33 63 k
markup_place front (equals t name st) p k = none_on ⊥ 33 63 k
markup_place front (assigned t name st) p k = none_on ⊥ 33 63 k
markup_place front (valued t name quote read st) p k =
    either ⊥ 33 63 (λ x. x) (60 == quote) (Some (tagged (with_attribute t name read) st)) None (λ m. absurd (m.on_a refl)) (none_on ⊥ 33 63) k
markup_place front (value_refers t name quote read r st) p k =
    no_reference ⊥ 33 63 60 (in_value_reference t name quote read st) (λ x. value_refers t name quote read x st) (value_reads t name quote read st) refl open_shut r k
markup_place front (slashed t st) p k = none_on ⊥ 33 63 k
markup_place front (ending left st) p k = no_ending ⊥ 33 63 60 st refl refl left refl k
markup_place front (ended st) p k = none_on ⊥ 33 63 k

pub reference_place : (front : List ℕ) (s : State) → Past front s → TakesOn 97 108 (step anyhow s 38) → IsReferring s
unfolding step is_space starts_name is_name_char is_value is_text is_char is_in_ranges is_quote xml_declaration doctype_declaration
reference_place front (content n text (ground l kids ds)) p k = none_on ⊥ 97 108 k
reference_place front (content n text (element name o kids st)) p k = tt
reference_place front (refers text r st) p k = no_reference ⊥ 97 108 38 (in_reference text st) (λ x. refers text x st) (text_reads text st) refl ampersand_shut r k
reference_place front (tag text st) p k = none_on ⊥ 97 108 k
reference_place front (bang text (ground blank kids ds)) p k = none_on ⊥ 97 108 k
reference_place front (bang text (ground fresh kids ds)) p k = none_on ⊥ 97 108 k
reference_place front (bang text (ground typed kids ds)) p k = none_on ⊥ 97 108 k
reference_place front (bang text (ground rooted kids ds)) p k = none_on ⊥ 97 108 k
reference_place front (bang text (element name o kids st)) p k = none_on ⊥ 97 108 k
reference_place front (question text st) p k = none_on ⊥ 97 108 k
reference_place front (targeting target text st) p k =
    either ⊥ 97 108 (λ x. x) (declares st target) None (cond (is_target target) None None) (none_on ⊥ 97 108) (either ⊥ 97 108 (λ x. x) (is_target target) None None (none_on ⊥ 97 108) (none_on ⊥ 97 108)) k
reference_place front (marked l text st) p k = no_reference_mark ⊥ 97 108 text st refl l k
reference_place front (forming g st) p k = no_form_mark ⊥ 97 108 38 g st (reference_calm front g p) k
reference_place front (naming (reading None read) st) p k = none_on ⊥ 97 108 k
reference_place front (naming (reading (Some prefix) read) st) p k = none_on ⊥ 97 108 k
reference_place front (naming (coloned prefix) st) p k = none_on ⊥ 97 108 k
reference_place front (tagged t st) p k = none_on ⊥ 97 108 k
reference_place front (spaced t st) p k = none_on ⊥ 97 108 k
reference_place front (attribute t (reading None read) st) p k = none_on ⊥ 97 108 k
reference_place front (attribute t (reading (Some prefix) read) st) p k = none_on ⊥ 97 108 k
reference_place front (attribute t (coloned prefix) st) p k = none_on ⊥ 97 108 k
reference_place front (equals t name st) p k = none_on ⊥ 97 108 k
reference_place front (assigned t name st) p k = none_on ⊥ 97 108 k
reference_place front (valued t name quote read st) p k = go (38 == quote) refl k
  where
    go : (b : Bool) → (38 == quote) ≡ b → TakesOn 97 108 (cond b (Some (tagged (with_attribute t name read) st)) (Some (value_refers t name quote read ampersand st))) → (38 == quote) ≡ false
    go true e m = absurd (m.on_a refl)
    go false e m = e
reference_place front (value_refers t name quote read r st) p k =
    no_reference ⊥ 97 108 38 (in_value_reference t name quote read st) (λ x. value_refers t name quote read x st) (value_reads t name quote read st) refl ampersand_shut r k
reference_place front (slashed t st) p k = none_on ⊥ 97 108 k
reference_place front (ending left st) p k = no_ending ⊥ 97 108 38 st refl refl left refl k
reference_place front (ended st) p k = none_on ⊥ 97 108 k
