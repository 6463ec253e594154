-- The end of a start tag that breaks a rule on names.
use Rattle.std.proofs.Common.{◌≡◌, ℕ, List, [], ◌∷◌, ◌++◌, refl, sym, subst, ap, ◌∙◌, arith, Bool, true, false, cond, ◌==◌, Option, Some, None, append_assoc}
use Rattle.std.specs.Option.{option_and_then}
use Rattle.std.proofs.lemmas.Bool.{eqb-true}
use Rattle.std.proofs.lemmas.Option.{none-some, same_Some}
use Rattle.xt_names.specs.declared.names.Binding.{Binding}
use Rattle.xt_tree.specs.TreeView.{forest_of}
use Rattle.xt_tree.specs.declared.trees.Tree.{Tree}
use Rattle.xt_tree.specs.declared.trees.Tree.TheVariants.{Doc}
use Rattle.doc_grammar.specs.Characters.{may_stand}
use Rattle.doc_grammar.specs.RawNames.{plain_name, RawTag, tag_named}
use Rattle.doc_grammar.specs.Scopes.{Opened, opened, top_scope, declared_by, declarations, is_binding, prefixes_differ, are_declarations, element_name, attribute_name, named_attributes}
use Rattle.doc_grammar.specs.Lexemes.{is_target}
use Rattle.doc_grammar.specs.Lexemes as lexemes
use Rattle.doc_grammar.specs.Forms.{FormStep, form_step}
use Rattle.doc_grammar.specs.Forms as form
use Rattle.doc_grammar.specs.Prolog.{xml_declaration}
use Rattle.doc_grammar.specs.Lexing.{RefStep, ref_step, LexStep, lex_step}
use Rattle.doc_grammar.specs.Lexing as lexing
use Rattle.doc_grammar.specs.Document.{Rules, Element, element_of, Level, blank, fresh, typed, rooted, may_root, may_type}
use Rattle.doc_grammar.specs.Document as doc
use Rattle.doc_grammar.specs.Machine.{Stack, ground, element, State, content, refers, tag, bang, question, targeting, marked, forming, naming, tagged, spaced, attribute, equals, assigned, valued, value_refers, slashed, ending, ended, NameStep, in_naming, in_content, in_reference, in_marked, in_forming, in_bang, declares, behind_plain_target, in_ended, behind_ending, step, start}
use Rattle.xt_names.specs.Classes.{is_in_ranges}
use Rattle.doc_grammar.specs.Skeleton.{anyhow, after, IsFirstTag, EndsTag, in_name, behind_attribute, behind_space, behind_slash}
use Rattle.doc_grammar.specs.SpotCases.{MarkupMayBegin, BeginsDocument, AtBrokenTag}
use Rattle.doc_grammar.proofs.Residue.{Inside, top, topped}
use Rattle.doc_grammar.proofs.FirstFaults.{prefix_to, after_anyhow}
use Rattle.doc_grammar.proofs.Probes.{after_both, begins_with, begins_not}
use Rattle.doc_grammar.proofs.SpotFits.{ended_element, markup_begins, markup_goes_on}
use Rattle.doc_grammar.proofs.SpotHistory.{past_of, empty_more}
use Rattle.doc_grammar.proofs.SpotPlaces.{TakesOn, IsContent, markup_place}
use Rattle.doc_grammar.proofs.Completions.{root_name}
use Rattle.xt_names.specs.Characters.{is_space, starts_name, is_name_char}

-- `<a/>` may be in a document

abbrev root_tag : RawTag
root_tag = tag_named (plain_name (97 ∷ []))

abbrev root : Opened
root = record { name = record { prefix = []; uri = []; local = 97 ∷ [] }; attributes = []; scope = top_scope ++ [] }

root_opens : opened top_scope root_tag ≡ Some root
unfolding opened declared_by declarations is_binding prefixes_differ are_declarations element_name attribute_name named_attributes
root_opens = refl

root_element : {rest : List ℕ} → Element opened 0 top_scope (60 ∷ 97 ∷ 47 ∷ 62 ∷ rest) (element_of root []) rest
root_element = doc.empty (omega arith) root_name (doc.none doc.slash) root_opens

-- what is read up to content begins a document

record Completes (n : ℕ) (text : List ℕ) (st : Stack) : Type 0 where
  ts : List ℕ
  w : Tree
  inside : Inside opened w n text st ts

rooting : (n : ℕ) (text : List ℕ) (l : Level) (kids : List Tree) (ds : List (List Binding)) → may_root l ≡ true → Completes n text (ground l kids ds)
rooting n text l kids ds m = record { ts = 60 ∷ 97 ∷ 47 ∷ 62 ∷ []; w = Doc (forest_of (kids ++ element_of root [] ∷ [])); inside = top (doc.root m root_element doc.ends) }

completing : (n : ℕ) (text : List ℕ) (st : Stack) → Completes n text st
completing n text (ground blank kids ds) = rooting n text blank kids ds refl
completing n text (ground fresh kids ds) = rooting n text fresh kids ds refl
completing n text (ground typed kids ds) = rooting n text typed kids ds refl
completing n text (ground rooted kids ds) = record { ts = []; w = Doc (forest_of kids); inside = top doc.ends }
completing n text (element name o kids st) = let k = ended_element opened n text name o kids st in record { ts = k.ts; w = k.w; inside = k.inside }

begins_document : (before : List ℕ) (n : ℕ) (text : List ℕ) (st : Stack) → after opened before start ≡ Some (content n text st) → BeginsDocument before
begins_document before n text st e =
    let k = completing n text st in
    (k.ts, k.w, topped ((prefix_to opened k.w before k.ts start (content n text st) e).1 k.inside))

-- what was read of a tag

-- after `<`, or in a start tag
abbrev pub IsInTag : State → Type 0
IsInTag (tag text st) = Unit {0}
IsInTag (naming n st) = Unit {0}
IsInTag (tagged t st) = Unit {0}
IsInTag (spaced t st) = Unit {0}
IsInTag (attribute t n st) = Unit {0}
IsInTag (equals t name st) = Unit {0}
IsInTag (assigned t name st) = Unit {0}
IsInTag (valued t name quote read st) = Unit {0}
IsInTag (value_refers t name quote read r st) = Unit {0}
IsInTag (slashed t st) = Unit {0}
IsInTag s = ⊥

-- the reader stays there
abbrev Stays : State → List ℕ → State → Type 0
Stays s [] u = s ≡ u
Stays s (c ∷ cs) u = (t : State) × (step opened s c ≡ Some t) × IsInTag t × Stays t cs u

stays_more : (s : State) (cs : List ℕ) (t u : State) (c : ℕ) → Stays s cs t → step opened t c ≡ Some u → IsInTag u → Stays s (cs ++ c ∷ []) u
stays_more s [] t u c k e i = let P : State → Type 0 = λ x. step opened x c ≡ Some u in (u, subst P (sym k) e, i, refl)
stays_more s (d ∷ cs) t u c k e i = (k.0, k.1, k.2, stays_more k.0 cs t u c k.3 e i)

-- the reader is in it after each part of what was read there
stays_at : (s u : State) (g h : List ℕ) (c : ℕ) → Stays s (g ++ c ∷ h) u → (t : State) × (after opened (g ++ c ∷ []) s ≡ Some t) × IsInTag t
stays_at s u [] h c k = (k.0, ap (option_and_then (after opened [])) k.1, k.2)
stays_at s u (d ∷ g) h c k =
    let m = stays_at k.0 u g h c k.3 in
    (m.0, ap (option_and_then (after opened (g ++ c ∷ []))) k.1 ∙ m.1, m.2)

record PastTag (front : List ℕ) (s : State) : Type 0 where
  before : List ℕ
  inner : List ℕ
  n : ℕ
  text : List ℕ
  st : Stack
  is_front : front ≡ before ++ 60 ∷ inner
  reached : after opened before start ≡ Some (content n text st)
  stays : Stays (tag text st) inner s

more_tag : (front : List ℕ) (s u : State) (c : ℕ) → PastTag front s → step opened s c ≡ Some u → IsInTag u → PastTag (front ++ c ∷ []) u
more_tag front s u c p e i = record {
  before = p.before;
  inner = p.inner ++ c ∷ [];
  n = p.n;
  text = p.text;
  st = p.st;
  is_front = ap (λ xs. xs ++ c ∷ []) p.is_front ∙ append_assoc p.before (60 ∷ p.inner) (c ∷ []);
  reached = p.reached;
  stays = stays_more (tag p.text p.st) p.inner s u c p.stays e i;
}

-- a step to no tag
abbrev Outside : Option State → Type 0
Outside None = Unit {0}
Outside (Some s) = IsInTag s → ⊥

either : (b : Bool) (x y : Option State) → Outside x → Outside y → Outside (cond b x y)
either true x y f g = f
either false x y f g = g

content_outside : (n : ℕ) (text : List ℕ) (st : Stack) (c : ℕ) → Outside (in_content n text st c)
content_outside n text (ground l kids ds) c = either (is_space c) _ _ (λ k. k) tt
content_outside n text (element name o kids st) c = either (c == 38) _ _ (λ k. k) (either (may_stand n c) _ _ (λ k. k) tt)

reference_outside : (text : List ℕ) (st : Stack) (o : RefStep) → Outside (in_reference text st o)
reference_outside text st (lexing.on r) = λ k. k
reference_outside text st (lexing.stands_for v) = λ k. k
reference_outside text st lexing.fails = tt

marked_outside : (text : List ℕ) (st : Stack) (o : LexStep) → Outside (in_marked text st o)
marked_outside text st (lexing.on l) = λ k. k
marked_outside text st (lexing.makes n) = λ k. k
marked_outside text st (lexing.says more) = λ k. k
marked_outside text st lexing.fails = tt

form_outside : (st : Stack) (o : FormStep) → Outside (in_forming st o)
form_outside st (form.goes g) = λ k. k
form_outside st form.done = λ k. k
form_outside st form.fails = tt

bang_outside : (text : List ℕ) (st : Stack) (c : ℕ) → Outside (in_bang text st c)
bang_outside text (ground l kids ds) c = either (may_type l) _ _ (form_outside (ground typed kids ds) _) tt
bang_outside text (element name o kids st) c = either (c == 91) _ _ (λ k. k) tt

plain_outside : (target text : List ℕ) (st : Stack) (c : ℕ) → Outside (behind_plain_target target text st c)
plain_outside target text st c = either (is_target target) _ _ (either (is_space c) _ _ (λ k. k) (either (c == 63) _ _ (λ k. k) tt)) tt

ended_outside : (st : Stack) (c : ℕ) → Outside (in_ended st c)
ended_outside (ground l kids ds) c = either (c == 62) _ _ tt (either (is_space c) _ _ (λ k. k) tt)
ended_outside (element name o kids st) c = either (c == 62) _ _ (λ k. k) (either (is_space c) _ _ (λ k. k) tt)

ending_outside : (left : List ℕ) (st : Stack) (c : ℕ) → Outside (behind_ending left st c)
ending_outside [] st c = ended_outside st c
ending_outside (d ∷ left) st c = either (c == d) _ _ (λ k. k) tt

out : {P : Type 0} (o : Option State) (u : State) → Outside o → o ≡ Some u → IsInTag u → P
out o u k e i = let Q : Option State → Type 0 = λ x. Outside x in absurd ((subst Q e k) i)

abbrev TagPast : List ℕ → State → Type 0
TagPast front s = IsInTag s → PastTag front s

begin_tag : (front : List ℕ) (n : ℕ) (text : List ℕ) (st : Stack) (c : ℕ) (u : State) → after opened front start ≡ Some (content n text st) → step opened (content n text st) c ≡ Some u → TagPast (front ++ c ∷ []) u
unfolding step
begin_tag front n text st c u r e i = go (c == 60) refl e
  where
    go : (b : Bool) → (c == 60) ≡ b → cond b (Some (tag text st)) (in_content n text st c) ≡ Some u → PastTag (front ++ c ∷ []) u
    go true same d = record { before = front; inner = []; n = n; text = text; st = st; is_front = ap (λ x. front ++ x ∷ []) (eqb-true c 60 same); reached = r; stays = same_Some _ _ d }
    go false same d = out _ u (content_outside n text st c) d i

tag_step : (front : List ℕ) (s : State) (c : ℕ) (u : State) → after opened front start ≡ Some s → TagPast front s → step opened s c ≡ Some u → TagPast (front ++ c ∷ []) u
unfolding step
tag_step front (content n text st) c u r p e i = begin_tag front n text st c u r e i
tag_step front (refers text x st) c u r p e i = out _ u (reference_outside text st (ref_step x c)) e i
tag_step front (tag text st) c u r p e i = more_tag front _ u c (p tt) e i
tag_step front (bang text st) c u r p e i = out _ u (either (c == 45) _ _ (λ k. k) (bang_outside text st c)) e i
tag_step front (question text st) c u r p e i = out _ u (either (starts_name c) _ _ (λ k. k) tt) e i
tag_step front (targeting target text st) c u r p e i =
    out _ u (either (is_name_char c) _ _ (λ k. k) (either (declares st target) _ _ (form_outside _ (form_step xml_declaration c)) (plain_outside target text st c))) e i
tag_step front (marked l text st) c u r p e i = out _ u (marked_outside text st (lex_step l c)) e i
tag_step front (forming g st) c u r p e i = out _ u (form_outside st (form_step g c)) e i
tag_step front (naming n st) c u r p e i = more_tag front _ u c (p tt) e i
tag_step front (tagged t st) c u r p e i = more_tag front _ u c (p tt) e i
tag_step front (spaced t st) c u r p e i = more_tag front _ u c (p tt) e i
tag_step front (attribute t n st) c u r p e i = more_tag front _ u c (p tt) e i
tag_step front (equals t name st) c u r p e i = more_tag front _ u c (p tt) e i
tag_step front (assigned t name st) c u r p e i = more_tag front _ u c (p tt) e i
tag_step front (valued t name quote read st) c u r p e i = more_tag front _ u c (p tt) e i
tag_step front (value_refers t name quote read x st) c u r p e i = more_tag front _ u c (p tt) e i
tag_step front (slashed t st) c u r p e i = more_tag front _ u c (p tt) e i
tag_step front (ending left st) c u r p e i = out _ u (ending_outside left st c) e i
tag_step front (ended st) c u r p e i = out _ u (ended_outside st c) e i

tag_after : (front more : List ℕ) (s t : State) → after opened front start ≡ Some s → TagPast front s → after opened more s ≡ Some t → TagPast (front ++ more) t
tag_after front [] s t e p d =
    let P : State → Type 0 = λ x. TagPast (front ++ []) x in
    let Q : List ℕ → Type 0 = λ x. TagPast x s in
    subst P (same_Some _ _ d) (subst Q (empty_more front) p)
tag_after front (c ∷ more) s t e p d = go (step opened s c) refl d (λ x a b k. tag_after (front ++ c ∷ []) more x t a b k)
  where
    go : (o : Option State) → step opened s c ≡ o → option_and_then (after opened more) o ≡ Some t → ((x : State) → after opened (front ++ c ∷ []) start ≡ Some x → TagPast (front ++ c ∷ []) x → after opened more x ≡ Some t → TagPast ((front ++ c ∷ []) ++ more) t) → TagPast (front ++ c ∷ more) t
    go None f k again = absurd (none-some _ k)
    go (Some x) f k again =
        let there = after_both opened front (c ∷ []) start s x e (ap (option_and_then (after opened [])) f) in
        let P : List ℕ → Type 0 = λ l. TagPast l t in
        subst P (append_assoc front (c ∷ []) more) (again x there (tag_step front s c x e p f) k)

past_tag : (front : List ℕ) (s : State) → after opened front start ≡ Some s → TagPast front s
past_tag front s e = tag_after [] front start s refl (λ i. absurd i) e

-- the state before markup
pub takes_markup : (before : List ℕ) (m : State) → after opened before start ≡ Some m → MarkupMayBegin before → TakesOn 33 63 (step anyhow m 60)
takes_markup before m r k = record {
  on_a = λ e. begins_not before (60 ∷ 33 ∷ []) m r e k.0;
  on_b = λ e. begins_not before (60 ∷ 63 ∷ []) m r e k.1;
  no_space = λ t e. k.2 (begins_with before (60 ∷ 32 ∷ []) m t r e);
}

no_content : (s : State) → IsInTag s → IsContent s → ⊥
no_content (content n text st) i k = i
no_content (refers text r st) i k = i
no_content (tag text st) i k = k
no_content (bang text st) i k = i
no_content (question text st) i k = i
no_content (targeting target text st) i k = i
no_content (marked l text st) i k = i
no_content (forming f st) i k = i
no_content (naming n st) i k = k
no_content (tagged t st) i k = k
no_content (spaced t st) i k = k
no_content (attribute t n st) i k = k
no_content (equals t name st) i k = k
no_content (assigned t name st) i k = k
no_content (valued t name quote read st) i k = k
no_content (value_refers t name quote read r st) i k = k
no_content (slashed t st) i k = k
no_content (ending left st) i k = i
no_content (ended st) i k = i

-- in a tag no markup may begin
no_markup : (front : List ℕ) (s : State) → after opened front start ≡ Some s → IsInTag s → MarkupMayBegin front → ⊥
no_markup front s e i k = no_content s i (markup_place front s (past_of front s e) (takes_markup front s e k))

-- where markup may begin, a document is begun
content_document : (before : List ℕ) (s : State) → after opened before start ≡ Some s → IsContent s → BeginsDocument before
content_document before (content n text st) e k = begins_document before n text st e
content_document before s e k = absurd k

pub document_here : (before : List ℕ) (s : State) → after opened before start ≡ Some s → MarkupMayBegin before → BeginsDocument before
document_here before s e k = content_document before s e (markup_place before s (past_of before s e) (takes_markup before s e k))

tag_reached : (before inner : List ℕ) (n : ℕ) (text : List ℕ) (st : Stack) (s : State) → after opened before start ≡ Some (content n text st) → after opened inner (tag text st) ≡ Some s → after opened (before ++ 60 ∷ inner) start ≡ Some s
unfolding step
tag_reached before inner n text st s e d = after_both opened before (60 ∷ inner) start (content n text st) s e d

-- the end of a start tag

ends_in_tag : {s : State} {t : RawTag} {st : Stack} → EndsTag s t st → IsInTag s
ends_in_tag (in_name e) = tt
ends_in_tag behind_attribute = tt
ends_in_tag behind_space = tt
ends_in_tag behind_slash = tt

-- after it comes content
tag_ends : {s : State} {t : RawTag} {st : Stack} → EndsTag s t st → (n : ℕ) × (text : List ℕ) × (su : Stack) × (after anyhow (62 ∷ []) s ≡ Some (content n text su))
unfolding step anyhow is_space starts_name is_in_ranges
tag_ends (in_name {st = st} e) = (_, _, _, ap (λ (o : NameStep). option_and_then (after anyhow []) (in_naming anyhow st 62 o)) e)
tag_ends behind_attribute = (_, _, _, refl)
tag_ends behind_space = (_, _, _, refl)
tag_ends behind_slash = (_, _, _, refl)

pub broken_tag : (front rest : List ℕ) → IsFirstTag front rest → AtBrokenTag front rest
broken_tag front rest f =
    let s = f.3.0 in
    let r = f.3.3 in
    let p = past_tag front s r (ends_in_tag f.3.4) in
    let k = tag_ends f.3.4 in
    record {
      before = p.before;
      inner = p.inner;
      more = f.0.0;
      is_front = p.is_front;
      is_close = f.0.1;
      is_markup = markup_begins p.before p.n p.text p.st p.reached;
      is_document = begins_document p.before p.n p.text p.st p.reached;
      is_end = markup_goes_on (front ++ 62 ∷ []) k.0 k.1 k.2 (after_both anyhow front (62 ∷ []) start s _ (after_anyhow front start s r) k.3);
      is_first = λ part others same m.
          let P : List ℕ → Type 0 = λ x. Stays (tag p.text p.st) x s in
          let t = stays_at (tag p.text p.st) s part others 62 (subst P same p.stays) in
          no_markup (p.before ++ 60 ∷ (part ++ 62 ∷ [])) t.0 (tag_reached p.before (part ++ 62 ∷ []) p.n p.text p.st t.0 p.reached t.1) t.2 m;
      is_none = f.2;
    }
