-- Where the text stands as a refusal tells, the reader tells so.
use Rattle.std.proofs.Common.{◌≡◌, ℕ, ◌≤◌, List, [], ◌∷◌, ◌++◌, refl, sym, subst, ap, ◌∙◌, arith, Bool, true, false, cond, ◌||◌, ◌==◌, Option, Some, None, append_assoc}
use Rattle.std.specs.List.{list_all}
use Rattle.std.specs.Option.{option_and_then}
use Rattle.std.proofs.lemmas.Bool.{eqb-true}
use Rattle.std.proofs.lemmas.Option.{none-some, same_Some}
use Rattle.xt_names.specs.Classes.{is_in_ranges}
use Rattle.xt_tree.specs.Sound.{is_xml_in_any_case}
use Rattle.xt_tree.specs.declared.trees.Tree.{Tree}
use Rattle.doc_grammar.specs.Scopes.{opened}
use Rattle.doc_grammar.specs.Lexemes.{is_target}
use Rattle.doc_grammar.specs.Forms.{Form, Part, Spelled, FormStep, form_step, form_part}
use Rattle.doc_grammar.specs.Forms as form
use Rattle.doc_grammar.specs.Prolog.{xml_declaration, doctype_declaration, encoding_name}
use Rattle.doc_grammar.specs.Document.{limit, IsText, may_type, typed}
use Rattle.doc_grammar.specs.Lexing.{Ref, RefStep, ref_step, ampersand, letter_a, spelling, hash, hash_x, number, target_space, target_mark}
use Rattle.doc_grammar.specs.Lexing as lexing
use Rattle.doc_grammar.specs.Machine.{Stack, ground, element, State, content, refers, tag, bang, question, targeting, marked, forming, naming, tagged, spaced, attribute, equals, assigned, valued, value_refers, slashed, ending, ended, in_reference, in_value_reference, in_forming, declares, with_begun, step, start, deep, entity, subset, encoding, stop_at, stop_in_ref, stop_in_form}
use Rattle.doc_grammar.specs.Skeleton.{anyhow, after}
use Rattle.doc_grammar.specs.SpotCases.{MarkupMayBegin, ReferenceMayBegin, Begun, AtSubset, AtEncoding, AtEntity, AtDeep, NamesEntity, EndTags, HasOpen}
use Rattle.doc_grammar.specs.SpotCases as cases
use Rattle.doc_grammar.proofs.CharacterFacts.{both}
use Rattle.doc_grammar.proofs.FormSteps.{FormGoes, forms_go, one_on}
use Rattle.doc_grammar.proofs.Probes.{after_parts, begins_with, begins_not}
use Rattle.doc_grammar.proofs.SpotForms.{is_end, is_code, closes, closes_step, close_part, doctype_closes, name_part}
use Rattle.doc_grammar.proofs.SpotHistory.{are_letters, past_of}
use Rattle.doc_grammar.proofs.SpotTags.{takes_markup}
use Rattle.doc_grammar.proofs.SpotPlaces.{TakesOn, IsContent, IsReferring, markup_place, reference_place}
use Rattle.xt_names.specs.Characters.{is_space, starts_name, is_name_char}
use Rattle.xt_names.proofs.BoolLemmas.{no}
use Rattle.xt_names.proofs.CharacterLemmas.{space_name}

head_is : {c d : ℕ} {cs ds : List ℕ} → c ∷ cs ≡ d ∷ ds → d ≡ c
head_is e = cc

-- the state before markup

takes_reference : (before : List ℕ) (m : State) → after opened before start ≡ Some m → ReferenceMayBegin before → TakesOn 97 108 (step anyhow m 38)
takes_reference before m r k = record {
  on_a = λ e. begins_not before (38 ∷ 97 ∷ []) m r e k.0;
  on_b = λ e. begins_not before (38 ∷ 108 ∷ []) m r e k.1;
  no_space = λ t e. k.2 (begins_with before (38 ∷ 32 ∷ []) m t r e);
}

-- the reader was in content, and went on from there
record FromContent (before more : List ℕ) (s : State) : Type 0 where
  n : ℕ
  text : List ℕ
  st : Stack
  reached : after opened before start ≡ Some (content n text st)
  goes : after opened more (content n text st) ≡ Some s

from_content : (before more : List ℕ) (m s : State) → after opened before start ≡ Some m → after opened more m ≡ Some s → IsContent m → FromContent before more s
from_content before more (content n text st) s r g k = record { n = n; text = text; st = st; reached = r; goes = g }
from_content before more (refers text r st) s e g k = absurd k
from_content before more (tag text st) s r g k = absurd k
from_content before more (bang text st) s r g k = absurd k
from_content before more (question text st) s r g k = absurd k
from_content before more (targeting read text st) s r g k = absurd k
from_content before more (marked l text st) s r g k = absurd k
from_content before more (forming f st) s r g k = absurd k
from_content before more (naming n st) s r g k = absurd k
from_content before more (tagged t st) s r g k = absurd k
from_content before more (spaced t st) s r g k = absurd k
from_content before more (attribute t n st) s r g k = absurd k
from_content before more (equals t name st) s r g k = absurd k
from_content before more (assigned t name st) s r g k = absurd k
from_content before more (valued t name quote read st) s r g k = absurd k
from_content before more (value_refers t name quote read x st) s r g k = absurd k
from_content before more (slashed t st) s r g k = absurd k
from_content before more (ending left st) s r g k = absurd k
from_content before more (ended st) s r g k = absurd k

behind_markup : (front before more : List ℕ) (s : State) → after opened front start ≡ Some s → front ≡ before ++ more → MarkupMayBegin before → FromContent before more s
behind_markup front before more s e same k =
    let P : List ℕ → Type 0 = λ x. after opened x start ≡ Some s in
    let a = after_parts opened before more start s (subst P same e) in
    from_content before more a.0 s a.1 a.2 (markup_place before a.0 (past_of before a.0 a.1) (takes_markup before a.0 a.1 k))

-- too many elements

-- where end tags may come, an element is open
no_end_tag : (before ends : List ℕ) (n count : ℕ) (text : List ℕ) (l : _) (kids : List Tree) (ds : _) (tree : Tree) → after opened before start ≡ Some (content n text (ground l kids ds)) → EndTags count ends → limit ≤ count → IsText anyhow (before ++ ends) tree → ⊥
unfolding step
no_end_tag before ends n count text l kids ds tree r cases.none low t = omega arith
no_end_tag before ends n count text l kids ds tree r (cases.one_more name {ts = ts} e more) low t =
    let u : IsText anyhow ((before ++ 60 ∷ 47 ∷ []) ++ ts) tree = rw (append_assoc before (60 ∷ 47 ∷ []) ts) t in
    begins_not before (60 ∷ 47 ∷ []) (content n text (ground l kids ds)) r refl (ts, tree, u)

deep_stops : (before : List ℕ) (count n c : ℕ) (text : List ℕ) (st : Stack) → after opened before start ≡ Some (content n text st) → limit ≤ count → HasOpen count before → starts_name c ≡ true → stop_at (tag text st) c ≡ deep
deep_stops before count n c text (ground l kids ds) r low k s = absurd (no_end_tag before k.0 n count text l kids ds k.1 r k.2 low k.3)
deep_stops before count n c text (element name o kids st) r low k s = rw s refl

pub deep_turns : (front more : List ℕ) (c : ℕ) (s : State) → after opened front start ≡ Some s → AtDeep front (c ∷ more) → stop_at s c ≡ deep
unfolding step
deep_turns front more c s e k =
    let b = behind_markup front k.before (60 ∷ []) s e k.is_front k.is_markup in
    let P : State → Type 0 = λ x. stop_at x c ≡ deep in
    let starts : starts_name c ≡ true = ap starts_name (sym (head_is k.fails)) ∙ k.names in
    subst P (same_Some _ _ b.goes) (deep_stops k.before k.count b.n c b.text b.st b.reached k.is_full k.has_open starts)

-- references

-- a reference by name, after some of it
abbrev IsNamed : Ref → Type 0
IsNamed ampersand = ⊥
IsNamed letter_a = Unit {0}
IsNamed (spelling left v) = are_letters left ≡ true
IsNamed hash = ⊥
IsNamed hash_x = ⊥
IsNamed (number b n) = ⊥

abbrev StaysNamed : RefStep → Type 0
StaysNamed (lexing.on r) = IsNamed r
StaysNamed (lexing.stands_for v) = ⊥
StaysNamed lexing.fails = Unit {0}

chosen : (b : Bool) (x y : RefStep) → (b ≡ true → StaysNamed x) → (b ≡ false → StaysNamed y) → StaysNamed (cond b x y)
chosen true x y f g = f refl
chosen false x y f g = g refl

no_semicolon : (c d : ℕ) → is_name_char c ≡ true → (c == d) ≡ true → (d == 59) ≡ true → ⊥
unfolding is_name_char is_in_ranges
no_semicolon c d h e f =
    let is : c ≡ 59 = eqb-true c d e ∙ eqb-true d 59 f in
    let P : ℕ → Type 0 = λ x. is_name_char x ≡ true in no (subst P is h) refl

no_hash : (c : ℕ) → is_name_char c ≡ true → (c == 35) ≡ true → ⊥
unfolding is_name_char is_in_ranges
no_hash c h e = let P : ℕ → Type 0 = λ x. is_name_char x ≡ true in no (subst P (eqb-true c 35 e) h) refl

named_on : (r : Ref) (c : ℕ) → IsNamed r → is_name_char c ≡ true → StaysNamed (ref_step r c)
unfolding is_name_char is_in_ranges
named_on ampersand c h n = absurd h
named_on letter_a c h n = chosen (c == 109) _ _ (λ e. refl) (λ e. chosen (c == 112) _ _ (λ f. refl) (λ f. tt))
named_on (spelling [] v) c h n = tt
named_on (spelling (d ∷ []) v) c h n = chosen (c == d) _ _ (λ e. no_semicolon c d n e h) (λ e. tt)
named_on (spelling (d ∷ f ∷ left) v) c h n = chosen (c == d) _ _ (λ e. (both h).1) (λ e. tt)
named_on hash c h n = absurd h
named_on hash_x c h n = absurd h
named_on (number b m) c h n = absurd h

first_named : (c : ℕ) → is_name_char c ≡ true → StaysNamed (ref_step ampersand c)
unfolding is_name_char is_in_ranges
first_named c n =
    chosen (c == 35) _ _ (λ e. absurd (no_hash c n e))
    (λ e. chosen (c == 97) _ _ (λ f. tt) (λ f. chosen (c == 108) _ _ (λ g. refl) (λ g. chosen (c == 103) _ _ (λ h. refl) (λ h. chosen (c == 113) _ _ (λ i. refl) (λ i. tt)))))

-- what a step in a reference does to the reader, and where it tells that the reference is to no character
record Reads (K : RefStep → Option State) (z : Ref → State) : Type 0 where
  on_fails : K lexing.fails ≡ None
  on_goes : (r : Ref) → K (lexing.on r) ≡ Some (z r)
  steps : (r : Ref) (c : ℕ) → step opened (z r) c ≡ K (ref_step r c)
  stops : (r : Ref) (c : ℕ) → stop_at (z r) c ≡ stop_in_ref r c

text_reads : (text : List ℕ) (st : Stack) → Reads (in_reference text st) (λ r. refers text r st)
unfolding step
text_reads text st = record { on_fails = refl; on_goes = λ r. refl; steps = λ r c. refl; stops = λ r c. refl }

value_reads : (t : _) (name : _) (quote : ℕ) (read : List ℕ) (st : Stack) → Reads (in_value_reference t name quote read st) (λ r. value_refers t name quote read r st)
unfolding step
value_reads t name quote read st = record { on_fails = refl; on_goes = λ r. refl; steps = λ r c. refl; stops = λ r c. refl }

-- a step that stays in a name, and the others
named_step : (K : RefStep → Option State) (z : Ref → State) → Reads K z → (o : RefStep) → StaysNamed o → (cs : List ℕ) (s : State) → ((r : Ref) → IsNamed r → after opened cs (z r) ≡ Some s → (t : Ref) × IsNamed t × (s ≡ z t)) → option_and_then (after opened cs) (K o) ≡ Some s → (t : Ref) × IsNamed t × (s ≡ z t)
named_step K z k (lexing.on r) h cs s again e = again r h (sym (ap (option_and_then (after opened cs)) (k.on_goes r)) ∙ e)
named_step K z k (lexing.stands_for v) h cs s again e = absurd h
named_step K z k lexing.fails h cs s again e = absurd (none-some _ (sym (ap (option_and_then (after opened cs)) k.on_fails) ∙ e))

names_on : (K : RefStep → Option State) (z : Ref → State) → Reads K z → (cs : List ℕ) (r : Ref) (s : State) → IsNamed r → list_all is_name_char cs ≡ true → after opened cs (z r) ≡ Some s → (t : Ref) × IsNamed t × (s ≡ z t)
names_on K z k [] r s h all e = (r, h, sym (same_Some _ _ e))
names_on K z k (c ∷ cs) r s h all e =
    named_step K z k (ref_step r c) (named_on r c h (both all).0) cs s (λ t g d. names_on K z k cs t s g (both all).1 d) (sym (ap (option_and_then (after opened cs)) (k.steps r c)) ∙ e)

named_stops : (r : Ref) (c : ℕ) → IsNamed r → (is_name_char c || c == 59) ≡ true → stop_in_ref r c ≡ entity
named_stops ampersand c h e = absurd h
named_stops letter_a c h e = rw e refl
named_stops (spelling left v) c h e = rw e refl
named_stops hash c h e = absurd h
named_stops hash_x c h e = absurd h
named_stops (number b n) c h e = absurd h

entity_stops : (K : RefStep → Option State) (z : Ref → State) → Reads K z → (name : List ℕ) (c : ℕ) (s : State) → list_all is_name_char name ≡ true → NamesEntity name c → after opened name (z ampersand) ≡ Some s → stop_at s c ≡ entity
entity_stops K z k [] c s all n e =
    let P : State → Type 0 = λ x. stop_at x c ≡ entity in
    let first : stop_in_ref ampersand c ≡ entity = rw n refl in
    subst P (same_Some _ _ e) (k.stops ampersand c ∙ first)
entity_stops K z k (d ∷ ds) c s all n e =
    let t = named_step K z k (ref_step ampersand d) (first_named d (both all).0) ds s (λ r g f. names_on K z k ds r s g (both all).1 f) (sym (ap (option_and_then (after opened ds)) (k.steps ampersand d)) ∙ e) in
    let P : State → Type 0 = λ x. stop_at x c ≡ entity in
    subst P (sym t.2) (k.stops t.0 c ∙ named_stops t.0 c t.1 n)

from_reference : (m s : State) (name : List ℕ) (c : ℕ) → IsReferring m → after opened (38 ∷ name) m ≡ Some s → list_all is_name_char name ≡ true → NamesEntity name c → stop_at s c ≡ entity
unfolding step
from_reference (content n text (ground l kids ds)) s name c h e all k = absurd h
from_reference (content n text (element outer o kids st)) s name c h e all k = entity_stops (in_reference text (element outer o kids st)) (λ r. refers text r (element outer o kids st)) (text_reads text (element outer o kids st)) name c s all k e
from_reference (refers text r st) s name c h e all k = absurd h
from_reference (tag text st) s name c h e all k = absurd h
from_reference (bang text st) s name c h e all k = absurd h
from_reference (question text st) s name c h e all k = absurd h
from_reference (targeting read text st) s name c h e all k = absurd h
from_reference (marked l text st) s name c h e all k = absurd h
from_reference (forming f st) s name c h e all k = absurd h
from_reference (naming n st) s name c h e all k = absurd h
from_reference (tagged t st) s name c h e all k = absurd h
from_reference (spaced t st) s name c h e all k = absurd h
from_reference (attribute t n st) s name c h e all k = absurd h
from_reference (equals t n st) s name c h e all k = absurd h
from_reference (assigned t n st) s name c h e all k = absurd h
from_reference (valued t n quote read st) s name c h e all k =
    entity_stops (in_value_reference t n quote read st) (λ r. value_refers t n quote read r st) (value_reads t n quote read st) name c s all k (rw h at e)
from_reference (value_refers t n quote read r st) s name c h e all k = absurd h
from_reference (slashed t st) s name c h e all k = absurd h
from_reference (ending left st) s name c h e all k = absurd h
from_reference (ended st) s name c h e all k = absurd h

same_end : (name : List ℕ) (c d : ℕ) → c ≡ d → NamesEntity name d → NamesEntity name c
same_end name c d e n = let P : ℕ → Type 0 = λ x. NamesEntity name x in subst P (sym e) n

pub entity_turns : (front more : List ℕ) (c : ℕ) (s : State) → after opened front start ≡ Some s → AtEntity front (c ∷ more) → stop_at s c ≡ entity
entity_turns front more c s e k =
    let P : List ℕ → Type 0 = λ x. after opened x start ≡ Some s in
    let a = after_parts opened k.before (38 ∷ k.name) start s (subst P k.is_front e) in
    let place = reference_place k.before a.0 (past_of k.before a.0 a.1) (takes_reference k.before a.0 a.1 k.is_reference) in
    from_reference a.0 s k.name c place a.2 k.is_name (same_end k.name c k.failing (sym (head_is k.fails)) k.names)

-- a DOCTYPE

not_empty : (cs : List ℕ) → [] ≡ cs ++ 62 ∷ [] → ⊥
not_empty [] e = cc
not_empty (c ∷ cs) e = cc

forms_run : (cs : List ℕ) (g : Form) (st : Stack) (s : State) → closes g ≡ true → after opened cs (forming g st) ≡ Some s → Spelled g (cs ++ 62 ∷ []) [] → (h : Form) × (s ≡ forming h st) × (closes h ≡ true) × Spelled h (62 ∷ []) []
unfolding step
forms_run [] g st s h e k = (g, sym (same_Some _ _ e), h, k)
forms_run (c ∷ cs) g st s h e k = go (form_step g c) refl (forms_go g c (cs ++ 62 ∷ [])) e (λ f i d l. forms_run cs f st s i d l)
  where
    go : (o : FormStep) → form_step g c ≡ o → FormGoes g c (cs ++ 62 ∷ []) o → option_and_then (after opened cs) (in_forming st o) ≡ Some s → ((f : Form) → closes f ≡ true → after opened cs (forming f st) ≡ Some s → Spelled f (cs ++ 62 ∷ []) [] → (h : Form) × (s ≡ forming h st) × (closes h ≡ true) × Spelled h (62 ∷ []) []) → (h : Form) × (s ≡ forming h st) × (closes h ≡ true) × Spelled h (62 ∷ []) []
    go (form.goes f) i j d again = again f (closes_step g f c h i) d ((j []).0 k)
    go form.done i j d again = absurd (not_empty cs (j.0 [] k))
    go form.fails i j d again = absurd (none-some _ d)

-- a DOCTYPE begins with `D`
doctype_first : (c : ℕ) (ts rest : List ℕ) → Spelled doctype_declaration (c ∷ ts) rest → (c == 68) ≡ true
unfolding doctype_declaration
doctype_first c ts rest k = (one_on k).0

bang_forms : (cs text : List ℕ) (st : Stack) (s : State) → after opened (68 ∷ cs) (bang text st) ≡ Some s → (su : Stack) × (after opened (68 ∷ cs) (forming doctype_declaration su) ≡ Some s)
unfolding step
bang_forms cs text (ground l kids ds) s e = go (may_type l) e
  where
    go : (b : Bool) → option_and_then (after opened cs) (cond b (in_forming (ground typed kids ds) (form_step doctype_declaration 68)) None) ≡ Some s → (su : Stack) × (after opened (68 ∷ cs) (forming doctype_declaration su) ≡ Some s)
    go true d = (ground typed kids ds, d)
    go false d = absurd (none-some _ d)
bang_forms cs text (element name o kids st) s e = absurd (none-some _ e)

end_stops : (p : Part) → is_end p ≡ true → stop_in_form p 91 ≡ subset
end_stops form.doctype_end e = refl
end_stops form.encoding e = absurd (cc)
end_stops form.elsewhere e = absurd (cc)

doctype_stops : (inner text : List ℕ) (st : Stack) (s : State) → after opened inner (bang text st) ≡ Some s → Spelled doctype_declaration (inner ++ 62 ∷ []) [] → stop_at s 91 ≡ subset
doctype_stops [] text st s e k = no (doctype_first 62 [] [] k) refl
doctype_stops (c ∷ cs) text st s e k =
    let is = eqb-true c 68 (doctype_first c (cs ++ 62 ∷ []) [] k) in
    let P : ℕ → Type 0 = λ x. after opened (x ∷ cs) (bang text st) ≡ Some s in
    let Q : ℕ → Type 0 = λ x. Spelled doctype_declaration (x ∷ (cs ++ 62 ∷ [])) [] in
    let b = bang_forms cs text st s (subst P is e) in
    let r = forms_run (68 ∷ cs) doctype_declaration b.0 s doctype_closes b.1 (subst Q is k) in
    let R : State → Type 0 = λ x. stop_at x 91 ≡ subset in
    subst R (sym r.1) (end_stops (form_part r.0 91) (close_part r.3 refl r.2))

pub subset_turns : (front more : List ℕ) (c : ℕ) (s : State) → after opened front start ≡ Some s → AtSubset front (c ∷ more) → stop_at s c ≡ subset
unfolding step
subset_turns front more c s e k =
    let b = behind_markup front k.before (60 ∷ 33 ∷ k.inner) s e k.is_front k.is_markup in
    let P : ℕ → Type 0 = λ x. stop_at s x ≡ subset in
    subst P (head_is k.is_bracket) (doctype_stops k.inner b.text b.st s b.goes k.is_whole)

-- an XML declaration

begun_runs : {f g : Form} {cs : List ℕ} (st : Stack) → Begun f cs g → after opened cs (forming f st) ≡ Some (forming g st)
unfolding step
begun_runs st cases.nothing = refl
begun_runs st (cases.first_one h b) = let k = begun_runs st b in rw h k
begun_runs st (cases.another h b) = let k = begun_runs st b in rw h k
begun_runs st (cases.no_other h b) = let k = begun_runs st b in rw h k
begun_runs st (cases.left h b) = let k = begun_runs st b in rw h k
begun_runs st (cases.right h b) = let k = begun_runs st b in rw h k

begun_empty : {f g : Form} {cs : List ℕ} → Begun f cs g → cs ≡ [] → f ≡ g
begun_empty cases.nothing e = refl
begun_empty (cases.first_one h b) e = absurd (cc)
begun_empty (cases.another h b) e = absurd (cc)
begun_empty (cases.no_other h b) e = absurd (cc)
begun_empty (cases.left h b) e = absurd (cc)
begun_empty (cases.right h b) e = absurd (cc)

begun_first : {p : Part} {class : ℕ → Bool} {e c : ℕ} {f g : Form} {cs : List ℕ} → Begun (form.one p class e f) (c ∷ cs) g → class c ≡ true
begun_first (cases.first_one h b) = h

xml_first : (c : ℕ) (cs : List ℕ) (g : Form) → Begun xml_declaration (c ∷ cs) g → is_space c ≡ true
unfolding xml_declaration
xml_first c cs g b = begun_first b

xml_not_name : (q : ℕ) → xml_declaration ≡ encoding_name q → ⊥
unfolding xml_declaration
xml_not_name q e = no {b = true} refl (sym (ap (λ (f : Form). is_code (form_part f 0)) e))

not_xml : is_target (120 ∷ 109 ∷ 108 ∷ []) ≡ false
unfolding is_target is_xml_in_any_case
not_xml = refl

targeted : (inner text : List ℕ) (n : ℕ) (st : Stack) → after opened (60 ∷ 63 ∷ 120 ∷ 109 ∷ 108 ∷ inner) (content n text st) ≡ after opened inner (targeting (120 ∷ 109 ∷ 108 ∷ []) text st)
unfolding step starts_name is_name_char is_in_ranges
targeted inner text n st = refl

xml_forms : (c : ℕ) (cs text : List ℕ) (st : Stack) (s : State) → is_space c ≡ true → after opened (c ∷ cs) (targeting (120 ∷ 109 ∷ 108 ∷ []) text st) ≡ Some s → after opened (c ∷ cs) (forming xml_declaration (with_begun st)) ≡ Some s
unfolding step
xml_forms c cs text st s h e =
    let name = space_name c h in
    go (declares st (120 ∷ 109 ∷ 108 ∷ [])) (is_target (120 ∷ 109 ∷ 108 ∷ [])) not_xml (rw name at e)
  where
    go : (a b : Bool) → b ≡ false → option_and_then (after opened cs) (cond a (in_forming (with_begun st) (form_step xml_declaration c)) (cond b (cond (is_space c) (Some (marked (target_space (120 ∷ 109 ∷ 108 ∷ [])) text st)) (cond (c == 63) (Some (marked (target_mark (120 ∷ 109 ∷ 108 ∷ [])) text st)) None)) None)) ≡ Some s → after opened (c ∷ cs) (forming xml_declaration (with_begun st)) ≡ Some s
    go true b i d = d
    go false true i d = absurd (cc)
    go false false i d = absurd (none-some _ d)

code_stops : (p : Part) (c : ℕ) → is_code p ≡ true → stop_in_form p c ≡ encoding
code_stops form.encoding c e = refl
code_stops form.doctype_end c e = absurd (cc)
code_stops form.elsewhere c e = absurd (cc)

-- after an opening quote of the value, the reader stands before the name
value_reached : (inner text : List ℕ) (q : ℕ) (st : Stack) (m : State) → Begun xml_declaration inner (encoding_name q) → after opened inner (targeting (120 ∷ 109 ∷ 108 ∷ []) text st) ≡ Some m → m ≡ forming (encoding_name q) (with_begun st)
value_reached [] text q st m b e = absurd (xml_not_name q (begun_empty b refl))
value_reached (c ∷ cs) text q st m b e =
    let r = xml_forms c cs text st m (xml_first c cs (encoding_name q) b) e in same_Some _ _ (sym r ∙ begun_runs (with_begun st) b)

pub encoding_turns : (front more : List ℕ) (c : ℕ) (s : State) → after opened front start ≡ Some s → AtEncoding front (c ∷ more) → stop_at s c ≡ encoding
encoding_turns front more c s e k =
    let b = behind_markup front k.before (60 ∷ 63 ∷ 120 ∷ 109 ∷ 108 ∷ (k.inner ++ k.letters)) s e k.is_front k.is_markup in
    let t = sym (targeted (k.inner ++ k.letters) b.text b.n b.st) ∙ b.goes in
    let a = after_parts opened k.inner k.letters (targeting (120 ∷ 109 ∷ 108 ∷ []) b.text b.st) s t in
    let P : State → Type 0 = λ x. after opened k.letters x ≡ Some s in
    let r = subst P (value_reached k.inner b.text k.quote b.st a.0 k.is_value a.1) a.2 in
    let Q : State → Type 0 = λ x. stop_at x c ≡ encoding in
    subst Q (same_Some _ _ (sym (begun_runs (with_begun b.st) k.is_name) ∙ r)) (code_stops (form_part k.expected c) c (name_part c k.is_name k.is_open))
