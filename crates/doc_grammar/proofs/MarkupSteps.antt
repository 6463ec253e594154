-- The steps after `<` and `<!`.
use Rattle.std.proofs.Common.{◌≡◌, ℕ, ◌<◌, List, [], ◌∷◌, ◌++◌, refl, arith, true, false, Some, None, ◌==◌, codes}
use Rattle.std.proofs.lemmas.Bool.{ltb-true, lt-ltb}
use Rattle.xt_names.specs.declared.names.Binding.{Binding}
use Rattle.xt_tree.specs.declared.trees.Tree.{Tree}
use Rattle.doc_grammar.specs.RawNames.{RawName, written_name, RawTag, tag_named}
use Rattle.doc_grammar.specs.Scopes.{Opened}
use Rattle.doc_grammar.specs.Lexemes as lexemes
use Rattle.doc_grammar.specs.Forms.{Spelled, form_step}
use Rattle.doc_grammar.specs.Forms as forms
use Rattle.doc_grammar.specs.Prolog.{doctype_declaration}
use Rattle.doc_grammar.specs.Document.{limit, Rules, text_nodes, Attributes, Element, Level, typed, may_type, Top}
use Rattle.doc_grammar.specs.Document as doc
use Rattle.doc_grammar.specs.Lexing.{dash, section_open}
use Rattle.doc_grammar.specs.Machine.{Stack, ground, element, reading, marked, depth, scope_of, with_text, may_open, behind_slash, in_tag, in_bang}
use Rattle.doc_grammar.proofs.CharacterFacts.{open_stands, open_space, slash_starts, bang_starts}
use Rattle.doc_grammar.proofs.Residue.{Inside, top, topped, placed, aside_placed, filled, leaves}
use Rattle.doc_grammar.proofs.Residue as residue
use Rattle.doc_grammar.proofs.LexRests.{LexRest, Made, node, said}
use Rattle.doc_grammar.proofs.LexRests as lex
use Rattle.doc_grammar.proofs.Rests.{Opening, NameRest, InName, InEnding, in_ending, InMarked, InForm, Then}
use Rattle.doc_grammar.proofs.Rests as rests
use Rattle.doc_grammar.proofs.Goes.{Goes, choose, through, at}
use Rattle.doc_grammar.proofs.NameSteps.{qname_begins, qname_from}
use Rattle.doc_grammar.proofs.ContentSteps.{form_steps}
use Rattle.xt_names.specs.Characters.{starts_name}
use Rattle.xt_names.proofs.BoolLemmas.{no}

-- an end tag

no_element_slash : {rules : Rules} {k : ℕ} {scope : List Binding} {ts rest : List ℕ} {n : Tree} → Element rules k scope (60 ∷ 47 ∷ ts) n rest → ⊥
no_element_slash (doc.empty h d a o) = no (qname_begins d).0 slash_starts
no_element_slash (doc.full h d a o c e) = no (qname_begins d).0 slash_starts

on_slash : {rules : Rules} {w : Tree} {n : ℕ} {ts text : List ℕ} {name : RawName} {o : Opened} {kids : List Tree} {st : Stack} → Inside rules w n text (element name o kids st) (60 ∷ 47 ∷ ts) → InEnding rules w (written_name name) (element name o (kids ++ text_nodes text) st) ts
on_slash (residue.ends t u) = in_ending t u
on_slash {n = n} (residue.says p k) = no p (open_stands n)
on_slash (residue.quotes s k) = elim s [ ]
on_slash (residue.child e k) = absurd (no_element_slash e)
on_slash (residue.aside m k) = elim m [ ]

off_slash : {rules : Rules} {w : Tree} {n : ℕ} {ts text : List ℕ} {name : RawName} {o : Opened} {kids : List Tree} {st : Stack} → InEnding rules w (written_name name) (element name o (kids ++ text_nodes text) st) ts → Inside rules w n text (element name o kids st) (60 ∷ 47 ∷ ts)
off_slash (in_ending t u) = residue.ends t u

no_top_slash : {rules : Rules} {w : Tree} {l : Level} {ts : List ℕ} {kids : List Tree} → Top rules l kids (60 ∷ 47 ∷ ts) w → ⊥
no_top_slash (doc.space s k) = no s open_space
no_top_slash (doc.aside m k) = elim m [ ]
no_top_slash (doc.root m e k) = no_element_slash e

pub slash_steps : (rules : Rules) (w : Tree) (ts text : List ℕ) (st : Stack) → Goes rules w (Inside rules w 0 text st (60 ∷ 47 ∷ ts)) ts (behind_slash text st)
slash_steps rules w ts text (ground l kids ds) = λ k. no_top_slash (topped k)
slash_steps rules w ts text (element name o kids st) = ((λ k. on_slash k), (λ k. off_slash k))

-- a start tag

-- the rest of a start tag, where one may begin
record Enters (rules : Rules) (w : Tree) (text : List ℕ) (st : Stack) (c : ℕ) (ts : List ℕ) : Type 0 where
  starts : starts_name c ≡ true
  opens : may_open st ≡ true
  named : InName rules w (reading None (c ∷ [])) (with_text text st) ts

entered : {rules : Rules} {w : Tree} {n c : ℕ} {ts text : List ℕ} {st : Stack} → (c == 47) ≡ false → (c == 33) ≡ false → (c == 63) ≡ false → Inside rules w n text st (60 ∷ c ∷ ts) → Enters rules w text st c ts
entered s b q (top (doc.declares f k)) = absurd (cc)
entered s b q (top (doc.space p k)) = no p open_space
entered s b q (top (doc.aside (lexemes.comment t) k)) = absurd (cc)
entered s b q (top (doc.aside (lexemes.instruction t) k)) = absurd (cc)
entered s b q (top (doc.types m f k)) = absurd (cc)
entered s b q (top (doc.root m (doc.empty h d a o) k)) = record { starts = (qname_begins d).0; opens = m; named = record { name = _; mid = _; named = (qname_begins d).1; behind = record { whole = _; rest = _; attributes = a; opening = rests.closes o (top k) } } }
entered s b q (top (doc.root m (doc.full h d a o c e) k)) = record { starts = (qname_begins d).0; opens = m; named = record { name = _; mid = _; named = (qname_begins d).1; behind = record { whole = _; rest = _; attributes = a; opening = rests.opens o (filled c refl refl e (top k)) } } }
entered s b q (residue.ends t u) = absurd (cc)
entered {n = n} s b q (residue.says p k) = no p (open_stands n)
entered s b q (residue.quotes (lexemes.section t) k) = absurd (cc)
entered s b q (residue.child (doc.empty h d a o) k) = record { starts = (qname_begins d).0; opens = lt-ltb _ _ h; named = record { name = _; mid = _; named = (qname_begins d).1; behind = record { whole = _; rest = _; attributes = a; opening = rests.closes o k } } }
entered s b q (residue.child (doc.full h d a o c e) k) = record { starts = (qname_begins d).0; opens = lt-ltb _ _ h; named = record { name = _; mid = _; named = (qname_begins d).1; behind = record { whole = _; rest = _; attributes = a; opening = rests.opens o (filled c refl refl e k) } } }
entered s b q (residue.aside (lexemes.comment t) k) = absurd (cc)
entered s b q (residue.aside (lexemes.instruction t) k) = absurd (cc)

scope_of-with_text : (text : List ℕ) (st : Stack) → scope_of (with_text text st) ≡ scope_of st
scope_of-with_text text (ground l kids ds) = refl
scope_of-with_text text (element name o kids st) = refl

depth-with_text : (text : List ℕ) (st : Stack) → depth (with_text text st) ≡ depth st
depth-with_text text (ground l kids ds) = refl
depth-with_text text (element name o kids st) = refl

pub open_low : (st : Stack) → may_open st ≡ true → depth st < limit
open_low (ground l kids ds) m = omega arith
open_low (element name o kids st) m = ltb-true _ _ m

element_begins : {rules : Rules} {w : Tree} {n c : ℕ} {ts text mid : List ℕ} {name : RawName} {st : Stack} {whole : RawTag} {rest : List ℕ} → starts_name c ≡ true → may_open st ≡ true → NameRest (reading None (c ∷ [])) ts name mid → Attributes (tag_named name) mid whole rest → Opening rules w whole (with_text text st) rest → Inside rules w n text st (60 ∷ c ∷ ts)
element_begins {text = text} {st = st} s m d a (rests.opens {o = o} e k) =
    let l = leaves k in
    placed text st m (doc.full (open_low st m) (qname_from s d) a (rw (scope_of-with_text text st) at e) (rw (depth-with_text text st) at l.content) l.tag) l.up
element_begins {text = text} {st = st} s m d a (rests.closes e u) = placed text st m (doc.empty (open_low st m) (qname_from s d) a (rw (scope_of-with_text text st) at e)) u

pub tag_steps : (rules : Rules) (w : Tree) (c : ℕ) (ts text : List ℕ) (st : Stack) → (c == 47) ≡ false → (c == 33) ≡ false → (c == 63) ≡ false → Goes rules w (Inside rules w 0 text st (60 ∷ c ∷ ts)) ts (in_tag text st c)
tag_steps rules w c ts text st s b q =
    choose rules w (Inside rules w 0 text st (60 ∷ c ∷ ts)) ts (starts_name c) _ _
    (λ n. choose rules w (Inside rules w 0 text st (60 ∷ c ∷ ts)) ts (may_open st) _ _
    (λ m. ((λ k. (entered s b q k).named), (λ k. element_begins {text = text} {st = st} n m k.named k.behind.attributes k.behind.opening)))
    (λ m k. no (entered s b q k).opens m))
    (λ n k. no (entered s b q k).starts n)

-- a comment

pub no_element_bang : {rules : Rules} {k : ℕ} {scope : List Binding} {ts rest : List ℕ} {n : Tree} → Element rules k scope (60 ∷ 33 ∷ ts) n rest → ⊥
no_element_bang (doc.empty h d a o) = no (qname_begins d).0 bang_starts
no_element_bang (doc.full h d a o c e) = no (qname_begins d).0 bang_starts

pub no_doctype_dash : {ts rest : List ℕ} → Spelled doctype_declaration (45 ∷ ts) rest → ⊥
unfolding doctype_declaration
no_doctype_dash (forms.first_one h k) = cc

on_dash : {rules : Rules} {w : Tree} {n : ℕ} {ts text : List ℕ} {st : Stack} → Inside rules w n text st (60 ∷ 33 ∷ 45 ∷ ts) → InMarked rules w dash text st ts
on_dash (top (doc.space s k)) = no s open_space
on_dash (top (doc.aside (lexemes.comment t) k)) = record { made = node _; mid = _; lex = lex.in_dash t; behind = top k }
on_dash (top (doc.types m f k)) = absurd (no_doctype_dash f)
on_dash (top (doc.root m e k)) = absurd (no_element_bang e)
on_dash {n = n} (residue.says p k) = no p (open_stands n)
on_dash (residue.quotes s k) = elim s [ ]
on_dash (residue.child e k) = absurd (no_element_bang e)
on_dash (residue.aside (lexemes.comment t) k) = record { made = node _; mid = _; lex = lex.in_dash t; behind = k }

off_dash : {rules : Rules} {w : Tree} {n : ℕ} {ts text : List ℕ} {st : Stack} → InMarked rules w dash text st ts → Inside rules w n text st (60 ∷ 33 ∷ 45 ∷ ts)
off_dash {rules = rules} {w = w} {n = n} {text = text} {st = st} b = go b.lex b.behind where
  go : {made : Made} {mid ts : List ℕ} → LexRest dash ts made mid → Then rules w text st made mid → Inside rules w n text st (60 ∷ 33 ∷ 45 ∷ ts)
  go (lex.in_dash t) behind = aside_placed text st (lexemes.comment t) behind

pub dash_steps : (rules : Rules) (w : Tree) (ts text : List ℕ) (st : Stack) → Goes rules w (Inside rules w 0 text st (60 ∷ 33 ∷ 45 ∷ ts)) ts (Some (marked dash text st))
dash_steps rules w ts text st = ((λ k. on_dash k), (λ b. off_dash b))

-- a DOCTYPE

record Types (rules : Rules) (w : Tree) (l : Level) (kids : List Tree) (ds : List (List Binding)) (ts : List ℕ) : Type 0 where
  may : may_type l ≡ true
  form : InForm rules w doctype_declaration (ground typed kids ds) ts

on_doctype : {rules : Rules} {w : Tree} {l : Level} {c : ℕ} {ts : List ℕ} {kids : List Tree} {ds : List (List Binding)} → (c == 45) ≡ false → Top rules l kids (60 ∷ 33 ∷ c ∷ ts) w → Types rules w l kids ds (c ∷ ts)
on_doctype n (doc.space s k) = no s open_space
on_doctype n (doc.aside (lexemes.comment t) k) = absurd (cc)
on_doctype n (doc.types m f k) = record { may = m; form = record { mid = _; form = f; behind = top k } }
on_doctype n (doc.root m e k) = absurd (no_element_bang e)

-- a section

on_section : {rules : Rules} {w : Tree} {n : ℕ} {ts text : List ℕ} {name : RawName} {o : Opened} {kids : List Tree} {st : Stack} → Inside rules w n text (element name o kids st) (60 ∷ 33 ∷ 91 ∷ ts) → InMarked rules w (section_open (codes "CDATA[")) text (element name o kids st) ts
on_section {n = n} (residue.says p k) = no p (open_stands n)
on_section (residue.quotes (lexemes.section t) k) = record { made = said _; mid = _; lex = lex.in_section_open (lex.a_letter (lex.a_letter (lex.a_letter (lex.a_letter (lex.a_letter (lex.last_letter t)))))); behind = k }
on_section (residue.child e k) = absurd (no_element_bang e)
on_section (residue.aside m k) = elim m [ ]

off_section : {rules : Rules} {w : Tree} {n : ℕ} {ts text : List ℕ} {name : RawName} {o : Opened} {kids : List Tree} {st : Stack} → InMarked rules w (section_open (codes "CDATA[")) text (element name o kids st) ts → Inside rules w n text (element name o kids st) (60 ∷ 33 ∷ 91 ∷ ts)
off_section {rules = rules} {w = w} {n = n} {text = text} {name = name} {o = o} {kids = kids} {st = st} b = go b.lex b.behind where
  go : {made : Made} {mid ts : List ℕ} → LexRest (section_open (codes "CDATA[")) ts made mid → Then rules w text (element name o kids st) made mid → Inside rules w n text (element name o kids st) (60 ∷ 33 ∷ 91 ∷ ts)
  go (lex.in_section_open (lex.a_letter (lex.a_letter (lex.a_letter (lex.a_letter (lex.a_letter (lex.last_letter t))))))) behind = residue.quotes (lexemes.section t) behind

other_bang : {rules : Rules} {w : Tree} {n c : ℕ} {ts text : List ℕ} {name : RawName} {o : Opened} {kids : List Tree} {st : Stack} → (c == 45) ≡ false → (c == 91) ≡ false → Inside rules w n text (element name o kids st) (60 ∷ 33 ∷ c ∷ ts) → ⊥
other_bang {n = n} x y (residue.says p k) = no p (open_stands n)
other_bang x y (residue.quotes (lexemes.section t) k) = cc
other_bang x y (residue.child e k) = no_element_bang e
other_bang x y (residue.aside (lexemes.comment t) k) = cc

pub bang_steps : (rules : Rules) (w : Tree) (c : ℕ) (ts text : List ℕ) (st : Stack) → (c == 45) ≡ false → Goes rules w (Inside rules w 0 text st (60 ∷ 33 ∷ c ∷ ts)) ts (in_bang text st c)
bang_steps rules w c ts text (ground l kids ds) n =
    choose rules w (Inside rules w 0 text (ground l kids ds) (60 ∷ 33 ∷ c ∷ ts)) ts (may_type l) _ _
    (λ m. through rules w _ (InForm rules w doctype_declaration (ground typed kids ds) (c ∷ ts)) ts _ (λ k. (on_doctype n (topped k)).form) (λ b. top (doc.types m b.form (topped b.behind))) (form_steps rules w doctype_declaration (ground typed kids ds) c ts))
    (λ m k. let t : Types rules w l kids ds (c ∷ ts) = on_doctype n (topped k) in no t.may m)
bang_steps rules w c ts text (element name o kids st) n =
    choose rules w (Inside rules w 0 text (element name o kids st) (60 ∷ 33 ∷ c ∷ ts)) ts (c == 91) _ _
    (λ e. at rules w (λ x. Inside rules w 0 text (element name o kids st) (60 ∷ 33 ∷ x)) c 91 ts (Some (marked (section_open (codes "CDATA[")) text (element name o kids st))) e ((λ k. on_section k), (λ b. off_section b)))
    (λ x k. other_bang n x k)
