-- What the parts of a start tag or an end tag, taken one after another, do to a reading.
use Rattle.std.proofs.Common.{◌≡◌, ℕ, List, [], ◌∷◌, ◌++◌, length, Bool, true, false, Option, Some, None, cond, MatchBool, ◌==◌, refl, sym, ap, ◌∙◌, inl, inr, eq-eqb, codes, Result, Ok, Err, IfOk}
use Rattle.std.proofs.lemmas.Bool.{ne_eqb}
use Rattle.std.specs.Str.{chars}
use Rattle.xt_names.specs.Allowed.{xml_uri}
use Rattle.xt_names.specs.declared.names.Binding.{Binding}
use Rattle.xt_tree.specs.declared.trees.Tree.{Tree}
use Rattle.doc_grammar.specs.Characters.{is_colon}
use Rattle.doc_grammar.specs.RawNames.{RawName, RawAttribute, RawTag, plain_name, prefixed_name, written_name, tag_named}
use Rattle.doc_grammar.specs.Scopes.{Opened, opened, declarations, top_scope}
use Rattle.doc_grammar.specs.Lexemes.{Spaces, Named, NCName}
use Rattle.doc_grammar.specs.Lexemes as lexemes
use Rattle.doc_grammar.specs.Document.{Level, QName, element_of}
use Rattle.doc_grammar.specs.Document as doc
use Rattle.doc_grammar.specs.Machine.{Stack, ground, element, reading, coloned, State, content, tag, naming, tagged, slashed, ending, ended, step, stop_at, Stop, stop_before_name, names, other, stops, behind, opens, closes, scope_of, may_open, with_text, with_child, with_declared}
use Rattle.doc_grammar.proofs.CharacterFacts.{close_space, slash_space, slash_starts, bang_starts, mark_starts}
use Rattle.doc_reader.specs.declared.readers.Frame as code
use Rattle.doc_reader.specs.declared.scopes.OpenedTag.{OpenedTag}
use Rattle.xml_source.specs.Sources.{NextIs, NoName, DiffersAt}
use Rattle.doc_reader.specs.Opening.{OpensTag}
use Rattle.xml_source.specs.Reading.{reads, Fails, Ran}
use Rattle.xml_source.specs.declared.steps.Step.{Step}
use Rattle.xml_source.specs.declared.steps.Step.TheVariants.{On, Stopped}
use Rattle.xml_source.specs.View.{name_of}
use Rattle.doc_reader.specs.Frames.{with_frame, outside, stack_of, Pushes, stop_before}
use Rattle.xml_source.proofs.ReadLemmas.{goes, stuck}
use Rattle.doc_reader.proofs.FrameLemmas.{popped, no_frames, declared_of, text_may_open, text_stop}
use Rattle.xml_source.proofs.EqualsLemmas.{TakesSpaces}
use Rattle.xt_names.specs.Characters.{is_space, starts_name, is_name_char, Ends, NotNext}
use Rattle.xt_names.proofs.CharacterLemmas.{is_other, colon_name}

-- end tags

same_step : (c : ℕ) (left : List ℕ) (st : Stack) → step opened (ending (c ∷ left) st) c ≡ Some (ending left st)
unfolding step
same_step c left st = rw (eq-eqb c c refl) refl

other_step : (c d : ℕ) (left : List ℕ) (st : Stack) → (c ≡ d → ⊥) → step opened (ending (d ∷ left) st) c ≡ None
unfolding step
other_step c d left st n = rw (ne_eqb c d n) refl

name_ended : (left rest : List ℕ) (st : Stack) → reads (left ++ rest) (ending left st) ≡ reads rest (ending [] st)
name_ended [] rest st = refl
name_ended (c ∷ left) rest st = goes _ _ c (left ++ rest) (same_step c left st) ∙ name_ended left rest st

name_differs : (read : List ℕ) (d : ℕ) (more rest : List ℕ) (st : Stack) → NotNext d rest → Fails (reads (read ++ rest) (ending (read ++ d ∷ more) st)) rest
name_differs [] d more [] st n = refl
name_differs [] d more (c ∷ cs) st n = stuck (ending (d ∷ more) st) c cs (other_step c d more st (λ same. n (sym same)))
name_differs (c ∷ read) d more rest st n = goes _ _ c (read ++ rest) (same_step c (read ++ d ∷ more) st) ∙ name_differs read d more rest st n

ended_same : (rest : List ℕ) (st : Stack) → reads rest (ending [] st) ≡ reads rest (ended st)
unfolding step
ended_same [] st = refl
ended_same (c ∷ cs) st = refl

space_step : (st : Stack) (c : ℕ) → is_space c ≡ true → step opened (ended st) c ≡ Some (ended st)
unfolding step
space_step st c s = rw (is_other is_space c 62 s close_space, s) refl

spaces_ended : {ts rest : List ℕ} (st : Stack) → Spaces ts rest → reads ts (ended st) ≡ reads rest (ended st)
spaces_ended st lexemes.no_space = refl
spaces_ended st (lexemes.a_space {c = c} {ts = ts} p s) = goes _ _ c ts (space_step st c p) ∙ spaces_ended st s

takes_ended : (b : Bool) (old new : List ℕ) (st : Stack) → TakesSpaces b old new → reads old (ended st) ≡ reads new (ended st)
takes_ended true old new st s = ap (λ (x : List ℕ). reads x (ended st)) s.2 ∙ spaces_ended st (lexemes.a_space s.3 s.4)
takes_ended false old new st s = ap (λ (x : List ℕ). reads x (ended st)) (sym s)

no_close_step : (st : Stack) (c : ℕ) → (c ≡ 62 → ⊥) → is_space c ≡ false → step opened (ended st) c ≡ None
unfolding step
no_close_step st c n s = rw (ne_eqb c 62 n, s) refl

no_close : (rest : List ℕ) (st : Stack) → NotNext 62 rest → Ends is_space rest → Fails (reads rest (ended st)) rest
no_close [] st n e = refl
no_close (c ∷ cs) st n e = stuck (ended st) c cs (no_close_step st c (λ same. n (sym same)) e)

to_ended : (w old mid after : List ℕ) (b : Bool) (st : Stack) → old ≡ w ++ mid → TakesSpaces b mid after → reads old (ending w st) ≡ reads after (ended st)
to_ended w old mid after b st e t =
    ap (λ (x : List ℕ). reads x (ending w st)) e ∙ name_ended w mid st ∙ ended_same mid st ∙ takes_ended b mid after st t

-- the name of an end tag is another one
pub end_differs : (w old new : List ℕ) (st : Stack) → DiffersAt w old new → Fails (reads old (ending w st)) new
end_differs w old new st d =
    ap (λ (x : List ℕ). reads x (ending w st)) d.is_old ∙ ap (λ (x : List ℕ). reads (d.read ++ new) (ending x st)) d.is_whole ∙ name_differs d.read d.next d.more new st d.not_next

-- the name of an end tag, the white space after it, and its `>` or not
pub end_of_tag : (w old mid after new : List ℕ) (b r : Bool) (st : Stack) → old ≡ w ++ mid → TakesSpaces b mid after → Ends is_space after → MatchBool r (after ≡ 62 ∷ new) ((new ≡ after) × NotNext 62 after)
    → MatchBool r (reads old (ending w st) ≡ reads (62 ∷ new) (ended st)) (Fails (reads old (ending w st)) new)
end_of_tag w old mid after new b true st e t s n = to_ended w old mid after b st e t ∙ ap (λ (x : List ℕ). reads x (ended st)) n
end_of_tag w old mid after new b false st e t s n = to_ended w old mid after b st e t ∙ no_close after st n.1 s ∙ ap (λ (x : List ℕ). stops other x) (sym n.0)

-- after `</` the innermost element is to end
abbrev end_state : Stack → Option State
end_state (ground l kids ds) = None
end_state (element name o kids st) = Some (ending (written_name name) (element name o kids st))

slash_step : (text : List ℕ) (st : Stack) → step opened (tag text st) 47 ≡ end_state (with_text text st)
unfolding step
slash_step text (ground l kids ds) = refl
slash_step text (element name o kids st) = refl

slash_why : (text : List ℕ) (st : Stack) → stop_at (tag text st) 47 ≡ other
slash_why text st = rw slash_starts refl

pub end_at_ground : (source new text : List ℕ) (st flushed : Stack) (fs : List code.Frame) (scope : List Binding) (l : Level) (kids : List Tree) (ds : List (List Binding)) → NextIs 47 source → new ≡ source
    → flushed ≡ with_text text st → flushed ≡ stack_of fs scope (ground l kids ds) → fs ≡ [] → Fails (reads source (tag text st)) new
end_at_ground [] new text st flushed fs scope l kids ds n s e b f = absurd n
end_at_ground (c ∷ cs) new text st flushed fs scope l kids ds n s e b f =
    let root : flushed ≡ ground l kids ds = rw f at b in
    let none : step opened (tag text st) 47 ≡ None = slash_step text st ∙ ap end_state (sym e ∙ root) in
    rw (s, n) (stuck (tag text st) 47 cs none ∙ ap (λ w. stops w (47 ∷ cs)) (slash_why text st))

-- an end tag up to its name
begins_end : (source new text : List ℕ) (st flushed around : Stack) (name : RawName) (o : Opened) (kids : List Tree) → source ≡ 47 ∷ new → flushed ≡ with_text text st → flushed ≡ element name o kids around
    → reads source (tag text st) ≡ reads new (ending (written_name name) (element name o kids around))
begins_end source new text st flushed around name o kids s e f =
    ap (λ (x : List ℕ). reads x (tag text st)) s ∙ goes _ _ 47 new (slash_step text st ∙ ap end_state (sym e ∙ f))

close_step : (name : RawName) (o : Opened) (kids : List Tree) (st : Stack) → step opened (ended (element name o kids st)) 62 ≡ Some (behind (element_of o kids) st)
unfolding step
close_step name o kids st = refl

pub end_fails : (source mid new text : List ℕ) (st flushed : Stack) (old front : List code.Frame) (f : code.Frame) (scope : List Binding) (base : Stack) → source ≡ 47 ∷ mid → flushed ≡ with_text text st → flushed ≡ stack_of old scope base → old ≡ front ++ f ∷ []
    → ((st : Stack) → Fails (reads mid (ending (written_name (name_of f.name)) st)) new) → Fails (reads source (tag text st)) new
end_fails source mid new text st flushed old front f scope base s e v p fails =
    let around = stack_of front (outside f scope) base in
    begins_end source mid text st flushed around (name_of f.name) (record { name = f.element; attributes = f.attributes; scope = scope }) f.kids s e (v ∙ popped old front f scope base p)
    ∙ fails (with_frame f scope around)

pub end_closes : (source mid new text : List ℕ) (st flushed after : Stack) (old front : List code.Frame) (f : code.Frame) (scope : List Binding) (base : Stack) → source ≡ 47 ∷ mid → flushed ≡ with_text text st → flushed ≡ stack_of old scope base → old ≡ front ++ f ∷ []
    → ((st : Stack) → reads mid (ending (written_name (name_of f.name)) st) ≡ reads (62 ∷ new) (ended st))
    → after ≡ with_child (element_of (record { name = f.element; attributes = f.attributes; scope = scope }) f.kids) (stack_of front (outside f scope) base)
    → reads source (tag text st) ≡ reads new (content 0 [] after)
end_closes source mid new text st flushed after old front f scope base s e v p ends a =
    let around = stack_of front (outside f scope) base in
    let o : Opened = record { name = f.element; attributes = f.attributes; scope = scope } in
    begins_end source mid text st flushed around (name_of f.name) o f.kids s e (v ∙ popped old front f scope base p)
    ∙ ends (with_frame f scope around) ∙ goes _ _ 62 new (close_step (name_of f.name) o f.kids around) ∙ ap (λ (x : Stack). reads new (content 0 [] x)) (sym a)

pub takes_next : (c : ℕ) (b : Bool) (old new : List ℕ) → NextIs c old → MatchBool b (old ≡ c ∷ new) ((new ≡ old) × NotNext c old) → old ≡ c ∷ new
takes_next c true old new n e = e
takes_next c false [] new n e = absurd n
takes_next c false (d ∷ ts) new n e = absurd (e.1 (sym n))

-- the bindings in force

xml_chars : chars (codes "xml") ≡ codes "xml"
unfolding chars
xml_chars = refl

uri_chars : chars xml_uri ≡ xml_uri
unfolding chars
uri_chars = refl

pub first_scope : (fs : List code.Frame) (scope cleared new : List Binding) (base : Stack) (prefix uri : List ℕ) → top_scope ≡ scope_of base → true ≡ (length fs == 0) → cleared ≡ [] → new ≡ cleared ++ record { prefix = prefix; uri = uri } ∷ []
    → prefix ≡ chars (codes "xml") → uri ≡ chars xml_uri → new ≡ scope_of (stack_of fs scope base)
first_scope fs scope cleared new base prefix uri t e c n p u =
    let none : fs ≡ [] = no_frames fs e in
    let top : new ≡ top_scope = rw (n, c, p ∙ xml_chars, u ∙ uri_chars) refl in
    rw none (top ∙ t)

-- the frame of a start tag
pub pushes : (t : RawTag) (old : Stack) (frames : List code.Frame) (scope inner : List Binding) (l : Level) (kids : List Tree) (ds ds' : List (List Binding)) (o : OpenedTag) (f : code.Frame)
    → scope ≡ scope_of old → stack_of frames scope (ground l kids ds) ≡ old → OpensTag scope t o inner → ds' ≡ ds ++ o.declarations ∷ []
    → ((st : Stack) → with_frame f inner st ≡ element t.name (record { name = o.element; attributes = o.attributes; scope = inner }) [] st) → f.declared ≡ length o.declarations
    → Pushes t old f frames inner (ground l kids ds')
pushes t old frames scope inner l kids ds ds' o f s g opens_tag d is_frame declared = record {
  opening = record { name = o.element; attributes = o.attributes; scope = inner };
  is_opened = rw s at opens_tag.opens;
  is_frame = is_frame;
  is_outside =
      let front : outside f inner ≡ scope = rw declared opens_tag.front in
      rw (front, d, opens_tag.declared) (declared_of frames scope (declarations t.attributes) l kids ds ∙ ap (with_declared (declarations t.attributes)) g);
}

-- the end of a start tag

full_step : (t : RawTag) (st : Stack) → step opened (tagged t st) 62 ≡ opens t st (opened (scope_of st) t)
unfolding step
full_step t st = rw close_space refl

empty_tag_step : (t : RawTag) (st : Stack) → step opened (tagged t st) 47 ≡ Some (slashed t st)
unfolding step
empty_tag_step t st = rw slash_space refl

empty_step : (t : RawTag) (st : Stack) → step opened (slashed t st) 62 ≡ closes t st (opened (scope_of st) t)
unfolding step
empty_step t st = refl

no_empty_step : (t : RawTag) (st : Stack) (c : ℕ) → (c ≡ 62 → ⊥) → step opened (slashed t st) c ≡ None
unfolding step
no_empty_step t st c n = rw (ne_eqb c 62 n) refl

no_empty_why : (t : RawTag) (st : Stack) (c : ℕ) → (c ≡ 62 → ⊥) → stop_at (slashed t st) c ≡ other
no_empty_why t st c n = rw (ne_eqb c 62 n) refl

pub full_stops : (source new : List ℕ) (t : RawTag) (st : Stack) → NextIs 62 source → new ≡ source → opened (scope_of st) t ≡ None → reads source (tagged t st) ≡ stops names new
full_stops [] new t st n s e = absurd n
full_stops (c ∷ cs) new t st n s e = rw (s, n) (stuck (tagged t st) 62 cs (full_step t st ∙ ap (opens t st) e))

pub full_opens : (source new text : List ℕ) (t : RawTag) (st base : Stack) (f : code.Frame) (frames pushed : List code.Frame) (scope : List Binding) → source ≡ 62 ∷ new → Pushes t st f frames scope base → pushed ≡ frames ++ f ∷ [] → text ≡ []
    → reads source (tagged t st) ≡ reads new (content 0 text (stack_of pushed scope base))
full_opens source new text t st base f frames pushed scope s p q e =
    let d = declarations t.attributes in
    let view : stack_of pushed scope base ≡ element t.name p.opening [] (with_declared d st) =
    popped pushed frames f scope base q ∙ p.is_frame (stack_of frames (outside f scope) base) ∙ ap (λ (x : Stack). element t.name p.opening [] x) p.is_outside in
    rw e (ap (λ (x : List ℕ). reads x (tagged t st)) s ∙ goes _ _ 62 new (full_step t st ∙ ap (opens t st) p.is_opened) ∙ ap (λ (x : Stack). reads new (content 0 [] x)) (sym view))

pub slash_goes : (source new : List ℕ) (t : RawTag) (st : Stack) → source ≡ 47 ∷ new → reads source (tagged t st) ≡ reads new (slashed t st)
slash_goes source new t st s = ap (λ (x : List ℕ). reads x (tagged t st)) s ∙ goes _ _ 47 new (empty_tag_step t st)

pub empty_none : (source : List ℕ) (t : RawTag) (st : Stack) → NotNext 62 source → Fails (reads source (slashed t st)) source
empty_none [] t st n = refl
empty_none (c ∷ cs) t st n =
    let differs = λ (same : c ≡ 62). n (sym same) in
    stuck (slashed t st) c cs (no_empty_step t st c differs) ∙ ap (λ w. stops w (c ∷ cs)) (no_empty_why t st c differs)

pub empty_stops : (source new : List ℕ) (t : RawTag) (st : Stack) → NextIs 62 source → new ≡ source → opened (scope_of st) t ≡ None → reads source (slashed t st) ≡ stops names new
empty_stops [] new t st n s e = absurd n
empty_stops (c ∷ cs) new t st n s e = rw (s, n) (stuck (slashed t st) 62 cs (empty_step t st ∙ ap (closes t st) e))

frame_parts : {n n' : RawName} {o o' : Opened} {k k' : List Tree} {st st' : Stack} → element n o k st ≡ element n' o' k' st' → (o ≡ o') × (k ≡ k')
frame_parts e = (cc, cc)

pub empty_closes : (source new text : List ℕ) (t : RawTag) (st base after : Stack) (f : code.Frame) (frames : List code.Frame) (scope : List Binding) → source ≡ 62 ∷ new → Pushes t st f frames scope base → text ≡ []
    → after ≡ with_child (element_of (record { name = f.element; attributes = f.attributes; scope = scope }) f.kids) (stack_of frames (outside f scope) base)
    → reads source (slashed t st) ≡ reads new (content 0 text after)
empty_closes source new text t st base after f frames scope s p e a =
    let d = declarations t.attributes in
    let parts = frame_parts (p.is_frame base) in
    let same : element_of (record { name = f.element; attributes = f.attributes; scope = scope }) f.kids ≡ element_of p.opening [] =
    ap (λ (o : Opened). element_of o f.kids) parts.0 ∙ ap (λ (k : List Tree). element_of p.opening k) parts.1 in
    let view : after ≡ with_child (element_of p.opening []) (with_declared d st) =
    a ∙ ap (λ (n : Tree). with_child n (stack_of frames (outside f scope) base)) same ∙ ap (λ (x : Stack). with_child (element_of p.opening []) x) p.is_outside in
    rw e (ap (λ (x : List ℕ). reads x (slashed t st)) s ∙ goes _ _ 62 new (empty_step t st ∙ ap (closes t st) p.is_opened) ∙ ap (λ (x : Stack). reads new (content 0 [] x)) (sym view))

pub if_ok : {T E : Type 0} {P Q : T → Type 0} (r : Result T E) → IfOk r P → ((x : T) → P x → Q x) → IfOk r Q
if_ok (Ok x) p f = f x p
if_ok (Err e) p f = tt

-- the name of a start tag

pub named_ends : {read ts name rest : List ℕ} → Named read ts name rest → Ends is_name_char rest
named_ends (lexemes.more p n) = named_ends n
named_ends (lexemes.whole e) = e

naming_step : (prefix : Option (List ℕ)) (read : List ℕ) (st : Stack) (c : ℕ) → is_name_char c ≡ true → step opened (naming (reading prefix read) st) c ≡ Some (naming (reading prefix (read ++ c ∷ [])) st)
unfolding step
naming_step prefix read st c p = rw p refl

run_naming : {read ts name rest : List ℕ} (prefix : Option (List ℕ)) (st : Stack) → Named read ts name rest → reads ts (naming (reading prefix read) st) ≡ reads rest (naming (reading prefix name) st)
run_naming prefix st (lexemes.more {c = c} {read = read} {ts = ts} p n) = goes _ _ c ts (naming_step prefix read st c p) ∙ run_naming prefix st n
run_naming prefix st (lexemes.whole e) = refl

colon_step : (read : List ℕ) (st : Stack) → step opened (naming (reading None read) st) 58 ≡ Some (naming (coloned read) st)
unfolding step
colon_step read st = rw colon_name refl

coloned_step : (prefix : List ℕ) (st : Stack) (c : ℕ) → starts_name c ≡ true → step opened (naming (coloned prefix) st) c ≡ Some (naming (reading (Some prefix) (c ∷ [])) st)
unfolding step
coloned_step prefix st c p = rw p refl

-- after a whole name the reader comes after the tag of that name
plain_same : (name : List ℕ) (st : Stack) (c : ℕ) (cs : List ℕ) → is_name_char c ≡ false → (c == 58) ≡ false → reads (c ∷ cs) (naming (reading None name) st) ≡ reads (c ∷ cs) (tagged (tag_named (plain_name name)) st)
unfolding step
plain_same name st c cs p q = rw (p, q) refl

plain_end : (name : List ℕ) (st : Stack) (rest : List ℕ) → Ends is_name_char rest → Ends is_colon rest → reads rest (naming (reading None name) st) ≡ reads rest (tagged (tag_named (plain_name name)) st)
plain_end name st [] e d = refl
plain_end name st (c ∷ cs) e d = plain_same name st c cs e d

local_same : (prefix name : List ℕ) (st : Stack) (c : ℕ) (cs : List ℕ) → is_name_char c ≡ false → reads (c ∷ cs) (naming (reading (Some prefix) name) st) ≡ reads (c ∷ cs) (tagged (tag_named (prefixed_name prefix name)) st)
unfolding step
local_same prefix name st c cs p = rw p refl

local_end : (prefix name : List ℕ) (st : Stack) (rest : List ℕ) → Ends is_name_char rest → reads rest (naming (reading (Some prefix) name) st) ≡ reads rest (tagged (tag_named (prefixed_name prefix name)) st)
local_end prefix name st [] e = refl
local_end prefix name st (c ∷ cs) e = local_same prefix name st c cs e

tag_step : (text : List ℕ) (st : Stack) (c : ℕ) → starts_name c ≡ true → may_open st ≡ true → step opened (tag text st) c ≡ Some (naming (reading None (c ∷ [])) (with_text text st))
unfolding step
tag_step text st c s h = rw (is_other starts_name c 47 s slash_starts, is_other starts_name c 33 s bang_starts, is_other starts_name c 63 s mark_starts, s, h) refl

-- text, and after it a `<` and the name of a start tag
run_name : {ts rest : List ℕ} {name : RawName} (text : List ℕ) (st : Stack) → may_open st ≡ true → QName ts name rest → reads ts (tag text st) ≡ reads rest (tagged (tag_named name) (with_text text st))
run_name {rest = rest} text st h (doc.plain (lexemes.ncname {c = c} {ts = ts} s d) e) =
    goes _ _ c ts (tag_step text st c s h) ∙ run_naming None (with_text text st) d ∙ plain_end _ (with_text text st) rest (named_ends d) e
run_name {rest = rest} text st h (doc.prefixed {prefix = prefix} {mid = mid} {local = local} (lexemes.ncname {c = c} {ts = ts} s d) (lexemes.ncname {c = c'} {ts = ts'} s' d')) =
    let inner = with_text text st in
    goes _ _ c ts (tag_step text st c s h) ∙ run_naming None inner d ∙ goes _ _ 58 (c' ∷ ts') (colon_step prefix inner)
    ∙ goes _ _ c' ts' (coloned_step prefix inner c' s') ∙ run_naming (Some prefix) inner d' ∙ local_end prefix local inner rest (named_ends d')

may_name : (text : List ℕ) (st flushed : Stack) → flushed ≡ with_text text st → true ≡ may_open flushed → may_open st ≡ true
may_name text st flushed e h = sym (text_may_open text st) ∙ ap may_open (sym e) ∙ sym h

pub name_goes : (source mid text : List ℕ) (st flushed : Stack) (name : RawName) → flushed ≡ with_text text st → true ≡ may_open flushed → QName source name mid → reads source (tag text st) ≡ reads mid (tagged (tag_named name) flushed)
name_goes source mid text st flushed name e h q = run_name text st (may_name text st flushed e h) q ∙ ap (λ (x : Stack). reads mid (tagged (tag_named name) x)) (sym e)

coloned_stop : (prefix : List ℕ) (st : Stack) (c : ℕ) (cs : List ℕ) → starts_name c ≡ false → Fails (reads (c ∷ cs) (naming (coloned prefix) st)) (c ∷ cs)
unfolding step
coloned_stop prefix st c cs e = rw e refl

coloned_stops : (prefix : List ℕ) (st : Stack) (rest : List ℕ) → Ends starts_name rest → Fails (reads rest (naming (coloned prefix) st)) rest
coloned_stops prefix st [] e = refl
coloned_stops prefix st (c ∷ cs) e = coloned_stop prefix st c cs e

no_tag_stop : (text : List ℕ) (st : Stack) (c : ℕ) (cs : List ℕ) → (c ≡ 47 → ⊥) → (c ≡ 33 → ⊥) → (c ≡ 63 → ⊥) → starts_name c ≡ false → Fails (reads (c ∷ cs) (tag text st)) (c ∷ cs)
unfolding step
no_tag_stop text st c cs slash bang question s = rw (ne_eqb c 47 slash, ne_eqb c 33 bang, ne_eqb c 63 question, s) refl

no_tag : (old text : List ℕ) (st : Stack) → NotNext 47 old → NotNext 33 old → NotNext 63 old → Ends starts_name old → Fails (reads old (tag text st)) old
no_tag [] text st slash bang question e = refl
no_tag (c ∷ cs) text st slash bang question e = no_tag_stop text st c cs (λ same. slash (sym same)) (λ same. bang (sym same)) (λ same. question (sym same)) e

broken_name : {old new prefix : List ℕ} (text : List ℕ) (st : Stack) → may_open st ≡ true → NCName old prefix (58 ∷ new) → Ends starts_name new → Fails (reads old (tag text st)) new
broken_name {new = new} {prefix = prefix} text st h (lexemes.ncname {c = c} {ts = ts} s d) e =
    let inner = with_text text st in
    goes _ _ c ts (tag_step text st c s h) ∙ run_naming None inner d ∙ goes _ _ 58 new (colon_step prefix inner) ∙ coloned_stops prefix inner new e

-- a tag that does not begin, or whose name breaks off
pub no_name : (old new text : List ℕ) (st flushed : Stack) → flushed ≡ with_text text st → true ≡ may_open flushed → NotNext 47 old → NotNext 33 old → NotNext 63 old → NoName old new → Fails (reads old (tag text st)) new
no_name old new text st flushed e h slash bang question (inl x) = rw x.0 (no_tag old text st slash bang question x.1)
no_name old new text st flushed e h slash bang question (inr x) = broken_name text st (may_name text st flushed e h) x.1 x.2

cannot_open_step : (text : List ℕ) (st : Stack) (c : ℕ) → (c ≡ 47 → ⊥) → (c ≡ 33 → ⊥) → (c ≡ 63 → ⊥) → may_open st ≡ false → step opened (tag text st) c ≡ None
unfolding step
cannot_open_step text st c slash bang question h = rw (ne_eqb c 47 slash, ne_eqb c 33 bang, ne_eqb c 63 question, h) (inside (starts_name c)) where
  nothing : Option State
  nothing = None

  inside : (b : Bool) → cond b nothing nothing ≡ nothing
  inside true = refl
  inside false = refl

-- no element may begin
pub cannot_open : (old new text : List ℕ) (st flushed : Stack) (why : Stop) → flushed ≡ with_text text st → new ≡ old → false ≡ may_open flushed → NotNext 47 old → NotNext 33 old → NotNext 63 old → why ≡ stop_before old flushed
    → reads old (tag text st) ≡ stops why new
cannot_open [] new text st flushed why e n h slash bang question w = rw (n, w) refl
cannot_open (c ∷ cs) new text st flushed why e n h slash bang question w =
    let closed : may_open st ≡ false = sym (text_may_open text st) ∙ ap may_open (sym e) ∙ sym h in
    let stop : stop_before_name st ≡ stop_before_name flushed = sym (text_stop text st) ∙ ap stop_before_name (sym e) in
    rw (n, w)
    (stuck (tag text st) c cs (cannot_open_step text st c (λ same. slash (sym same)) (λ same. bang (sym same)) (λ same. question (sym same)) closed)
    ∙ ap (λ x. stops (cond (starts_name c) x other) (c ∷ cs)) stop)

-- a start tag after its name

pub named_on : (source mid : List ℕ) (name : RawName) (attributes : List RawAttribute) (t : RawTag) (st : Stack) → attributes ≡ [] → reads source (tagged (record { name = name; attributes = attributes }) st) ≡ reads mid (tagged t st)
    → reads source (tagged (tag_named name) st) ≡ reads mid (tagged t st)
named_on source mid name attributes t st e r = rw e at r

pub named_stopped : (source new : List ℕ) (name : RawName) (attributes : List RawAttribute) (st : Stack) (s s' : State) (stopped : Step) → attributes ≡ [] → (stopped ≡ On → ⊥) → Ran (reads source (tagged (record { name = name; attributes = attributes }) st)) new s stopped
    → Ran (reads source (tagged (tag_named name) st)) new s' stopped
named_stopped source new name attributes st s s' On e n r = absurd (n refl)
named_stopped source new name attributes st s s' (Stopped why) e n r = rw e at r
