-- What was read before each state where a refusal tells more than a place.
use Rattle.std.proofs.Common.{◌≡◌, ℕ, ◌+◌, ◌*◌, nat_le, List, [], ◌∷◌, ◌++◌, refl, sym, subst, ap, ◌∙◌, Bool, true, false, cond, ◌&&◌, ◌==◌, Option, Some, None, append_assoc, codes}
use Rattle.std.proofs.lemmas.Bool.{eqb-true}
use Rattle.std.specs.List.{list_all}
use Rattle.std.specs.Option.{option_and_then}
use Rattle.std.proofs.lemmas.Slice.Eq.{bytes_eq-Decides}
use Rattle.std.proofs.lemmas.Option.{none-some, same_Some}
use Rattle.xt_names.specs.Classes.{is_in_ranges}
use Rattle.doc_grammar.specs.Characters.{is_value, may_stand, Base, decimal, hexadecimal, digit, base_of, last_char}
use Rattle.doc_grammar.specs.RawNames.{RawTag, tag_named}
use Rattle.doc_grammar.specs.Scopes.{Opened, opened}
use Rattle.doc_grammar.specs.Lexemes.{is_target}
use Rattle.doc_grammar.specs.Forms.{Form, Spelled, FormStep, form_step}
use Rattle.doc_grammar.specs.Forms as form
use Rattle.doc_grammar.specs.Prolog.{xml_declaration, doctype_declaration}
use Rattle.doc_grammar.specs.Document.{may_type, typed, blank, fresh, rooted}
use Rattle.doc_grammar.specs.Lexing.{Ref, RefStep, ref_step, spelling_step, entity_step, with_digit, first_digit, ampersand, letter_a, spelling, hash, hash_x, number, Lex, LexStep, lex_step}
use Rattle.doc_grammar.specs.Lexing as lexing
use Rattle.doc_grammar.specs.Machine.{Stack, ground, element, NameStep, on, behind_name, fails, name_step, State, content, refers, tag, bang, question, targeting, marked, forming, naming, tagged, spaced, attribute, equals, assigned, valued, value_refers, slashed, ending, ended, in_content, in_reference, in_value_reference, in_marked, in_forming, in_bang, declares, may_open, behind_plain_target, behind_target, behind_slash, opens, closes, at_end, behind_tagged, in_naming, in_attribute, closed, in_ended, behind_ending, step, start}
use Rattle.doc_grammar.specs.Skeleton.{after}
use Rattle.doc_grammar.proofs.CharacterFacts.{both}
use Rattle.doc_grammar.proofs.FormSteps.{FormGoes, forms_go}
use Rattle.doc_grammar.proofs.Probes.{after_both}
use Rattle.doc_grammar.proofs.SpotForms as forms
use Rattle.doc_grammar.proofs.SpotForms.{Where, where_first, where_more, closes_step, doctype_closes}
use Rattle.xt_names.specs.Characters.{is_space, is_char, is_quote, starts_name, is_name_char}

-- Markup that is begun: what was read before it, and where the reader stood there.
pub record Behind (mark front text : List ℕ) (st : Stack) : Type 0 where
  pub before : List ℕ
  pub brackets : ℕ
  pub is_front : front ≡ before ++ mark
  pub reached : after opened before start ≡ Some (content brackets text st)

-- what was read of a DOCTYPE: what is left of it makes it whole
pub record InDoctype (front : List ℕ) (g : Form) : Type 0 where
  pub inner : List ℕ
  pub text : List ℕ
  pub st : Stack
  pub begun : Behind (60 ∷ 33 ∷ inner) front text st
  pub whole : (ts rest : List ℕ) → Spelled g ts rest → Spelled doctype_declaration (inner ++ ts) rest
  pub is_closing : forms.closes g ≡ true
  pub no_code : forms.lacks forms.is_code g ≡ true
  pub open_calm : forms.calm 60 g ≡ true
  pub reference_calm : forms.calm 38 g ≡ true

-- what was read of an XML declaration
pub record InXml (front : List ℕ) (g : Form) : Type 0 where
  pub inner : List ℕ
  pub text : List ℕ
  pub st : Stack
  pub begun : Behind (60 ∷ 63 ∷ 120 ∷ 109 ∷ 108 ∷ inner) front text st
  pub place : Where inner g
  pub no_end : forms.lacks forms.is_end g ≡ true
  pub open_calm : forms.calm 60 g ≡ true
  pub reference_calm : forms.calm 38 g ≡ true

pub data PastForm (front : List ℕ) (g : Form) : Type 0 where
  in_doctype : InDoctype front g → PastForm front g
  in_xml : InXml front g → PastForm front g

-- some characters, which may all stand in a name
abbrev pub IsPart : List ℕ → Type 0
IsPart [] = ⊥
IsPart (c ∷ cs) = list_all is_name_char (c ∷ cs) ≡ true

-- all but the last may be in a name, and that is `;`
abbrev pub are_letters : List ℕ → Bool
are_letters [] = true
are_letters (c ∷ []) = c == 59
are_letters (c ∷ d ∷ cs) = is_name_char c && are_letters (d ∷ cs)

-- what was read of a reference after `&`
abbrev pub PastName : Ref → List ℕ → Type 0
PastName ampersand name = name ≡ []
PastName letter_a name = IsPart name
PastName (spelling left v) name = IsPart name × (are_letters left ≡ true)
PastName hash name = Unit {0}
PastName hash_x name = Unit {0}
PastName (number b n) name = Unit {0}

-- a reference that is begun; this is the state after its `&`
pub record PastReference (front : List ℕ) (first : State) (r : Ref) : Type 0 where
  pub before : List ℕ
  pub at : State
  pub name : List ℕ
  pub is_front : front ≡ before ++ (38 ∷ name)
  pub reached : after opened before start ≡ Some at
  pub begins : step opened at 38 ≡ Some first
  pub past : PastName r name

abbrev pub Past : List ℕ → State → Type 0
Past front (tag text st) = Behind (60 ∷ []) front text st
Past front (bang text st) = Behind (60 ∷ 33 ∷ []) front text st
Past front (question text st) = Behind (60 ∷ 63 ∷ []) front text st
Past front (targeting target text st) = Behind (60 ∷ 63 ∷ target) front text st
Past front (forming g st) = PastForm front g
Past front (refers text r st) = PastReference front (refers text ampersand st) r
Past front (value_refers t name quote read r st) = PastReference front (value_refers t name quote read ampersand st) r
Past front s = Unit {0}

abbrev pub Pasts : List ℕ → Option State → Type 0
Pasts front None = Unit {0}
Pasts front (Some s) = Past front s

either : (front : List ℕ) (b : Bool) (x y : Option State) → (b ≡ true → Pasts front x) → (b ≡ false → Pasts front y) → Pasts front (cond b x y)
either front true x y f g = f refl
either front false x y f g = g refl

-- a character more

more_mark : (mark front text : List ℕ) (st : Stack) (c : ℕ) → Behind mark front text st → Behind (mark ++ c ∷ []) (front ++ c ∷ []) text st
more_mark mark front text st c b = record {
  before = b.before;
  brackets = b.brackets;
  is_front = ap (λ xs. xs ++ c ∷ []) b.is_front ∙ append_assoc b.before mark (c ∷ []);
  reached = b.reached;
}

-- and which one it is
known_mark : (mark front text : List ℕ) (st : Stack) (c d : ℕ) → (c == d) ≡ true → Behind mark front text st → Behind (mark ++ d ∷ []) (front ++ c ∷ []) text st
known_mark mark front text st c d e b =
    let P : ℕ → Type 0 = λ x. Behind (mark ++ x ∷ []) (front ++ c ∷ []) text st in
    subst P (eqb-true c d e) (more_mark mark front text st c b)

-- references

abbrev PastsRef : List ℕ → State → RefStep → Type 0
PastsRef front first (lexing.on r) = PastReference front first r
PastsRef front first (lexing.stands_for v) = Unit {0}
PastsRef front first lexing.fails = Unit {0}

abbrev NamesOn : List ℕ → RefStep → Type 0
NamesOn name (lexing.on r) = PastName r name
NamesOn name (lexing.stands_for v) = Unit {0}
NamesOn name lexing.fails = Unit {0}

either_name : (name : List ℕ) (b : Bool) (x y : RefStep) → (b ≡ true → NamesOn name x) → (b ≡ false → NamesOn name y) → NamesOn name (cond b x y)
either_name name true x y f g = f refl
either_name name false x y f g = g refl

all_more : (cs : List ℕ) (c : ℕ) → list_all is_name_char cs ≡ true → is_name_char c ≡ true → list_all is_name_char (cs ++ c ∷ []) ≡ true
all_more [] c h k = rw k refl
all_more (d ∷ cs) c h k =
    let first : is_name_char d ≡ true = (both h).0 in
    let rest : list_all is_name_char (cs ++ c ∷ []) ≡ true = all_more cs c (both h).1 k in rw first rest

part_more : (name : List ℕ) (c d : ℕ) → IsPart name → (c == d) ≡ true → is_name_char d ≡ true → IsPart (name ++ c ∷ [])
part_more [] c d h e k = absurd h
part_more (a ∷ name) c d h e k = all_more (a ∷ name) c h (ap is_name_char (eqb-true c d e) ∙ k)

part_first : (c d : ℕ) → (c == d) ≡ true → is_name_char d ≡ true → IsPart (c ∷ [])
part_first c d e k = all_more [] c refl (ap is_name_char (eqb-true c d e) ∙ k)

digits_on : (name : List ℕ) (b : Base) (n : ℕ) (o : Option ℕ) → NamesOn name (with_digit b n o)
digits_on name b n None = tt
digits_on name b n (Some d) = either_name name (nat_le (n * base_of b + d) last_char) _ _ (λ e. tt) (λ e. tt)

first_on : (name : List ℕ) (b : Base) (o : Option ℕ) → NamesOn name (first_digit b o)
first_on name b None = tt
first_on name b (Some d) = tt

spelling_on : (name left : List ℕ) (v c : ℕ) → IsPart name → are_letters left ≡ true → NamesOn (name ++ c ∷ []) (spelling_step left v c)
spelling_on name [] v c p h = tt
spelling_on name (d ∷ []) v c p h = either_name (name ++ c ∷ []) (c == d) _ _ (λ e. tt) (λ e. tt)
spelling_on name (d ∷ f ∷ left) v c p h = either_name (name ++ c ∷ []) (c == d) _ _ (λ e. (part_more name c d p e (both h).0, (both h).1)) (λ e. tt)

entity_on : (c : ℕ) → NamesOn (c ∷ []) (entity_step c)
unfolding is_name_char is_in_ranges
entity_on c =
    either_name (c ∷ []) (c == 97) _ _ (λ e. part_first c 97 e refl)
    (λ n. either_name (c ∷ []) (c == 108) _ _ (λ e. (part_first c 108 e refl, refl))
    (λ n. either_name (c ∷ []) (c == 103) _ _ (λ e. (part_first c 103 e refl, refl))
    (λ n. either_name (c ∷ []) (c == 113) _ _ (λ e. (part_first c 113 e refl, refl)) (λ n. tt))))

name_on : (r : Ref) (name : List ℕ) (c : ℕ) → PastName r name → NamesOn (name ++ c ∷ []) (ref_step r c)
unfolding is_name_char is_in_ranges
name_on ampersand name c h =
    let P : List ℕ → Type 0 = λ x. NamesOn (x ++ c ∷ []) (ref_step ampersand c) in
    subst P (sym h) (either_name (c ∷ []) (c == 35) _ _ (λ e. tt) (λ e. entity_on c))
name_on letter_a name c h =
    either_name (name ++ c ∷ []) (c == 109) _ _ (λ e. (part_more name c 109 h e refl, refl))
    (λ n. either_name (name ++ c ∷ []) (c == 112) _ _ (λ e. (part_more name c 112 h e refl, refl)) (λ n. tt))
name_on (spelling left v) name c h = spelling_on name left v c h.0 h.1
name_on hash name c h = either_name (name ++ c ∷ []) (c == 120) _ _ (λ e. tt) (λ e. first_on (name ++ c ∷ []) decimal (digit decimal c))
name_on hash_x name c h = first_on (name ++ c ∷ []) hexadecimal (digit hexadecimal c)
name_on (number b n) name c h = either_name (name ++ c ∷ []) (c == 59) _ _ (λ e. either_name (name ++ c ∷ []) (is_char n) _ _ (λ p. tt) (λ p. tt)) (λ e. digits_on (name ++ c ∷ []) b n (digit b c))

reference_on : (front : List ℕ) (first : State) (r : Ref) (c : ℕ) → PastReference front first r → PastsRef (front ++ c ∷ []) first (ref_step r c)
reference_on front first r c p = go (ref_step r c) (name_on r p.name c p.past)
  where
    go : (o : RefStep) → NamesOn (p.name ++ c ∷ []) o → PastsRef (front ++ c ∷ []) first o
    go (lexing.on s) n = record {
      before = p.before;
      at = p.at;
      name = p.name ++ c ∷ [];
      is_front = ap (λ xs. xs ++ c ∷ []) p.is_front ∙ append_assoc p.before (38 ∷ p.name) (c ∷ []);
      reached = p.reached;
      begins = p.begins;
      past = n;
    }
    go (lexing.stands_for v) n = tt
    go lexing.fails n = tt

in_reference_past : (front text : List ℕ) (st : Stack) (o : RefStep) → PastsRef front (refers text ampersand st) o → Pasts front (in_reference text st o)
in_reference_past front text st (lexing.on r) p = p
in_reference_past front text st (lexing.stands_for v) p = tt
in_reference_past front text st lexing.fails p = tt

in_value_past : (front : List ℕ) (t : RawTag) (name : _) (quote : ℕ) (read : List ℕ) (st : Stack) (o : RefStep) → PastsRef front (value_refers t name quote read ampersand st) o → Pasts front (in_value_reference t name quote read st o)
in_value_past front t name quote read st (lexing.on r) p = p
in_value_past front t name quote read st (lexing.stands_for v) p = tt
in_value_past front t name quote read st lexing.fails p = tt

-- forms

abbrev PastsForm : List ℕ → FormStep → Type 0
PastsForm front (form.goes g) = PastForm front g
PastsForm front form.done = Unit {0}
PastsForm front form.fails = Unit {0}

doctype_on : (front : List ℕ) (g h : Form) (c : ℕ) → InDoctype front g → form_step g c ≡ form.goes h → InDoctype (front ++ c ∷ []) h
doctype_on front g h c p e = record {
  inner = p.inner ++ c ∷ [];
  text = p.text;
  st = p.st;
  begun = more_mark (60 ∷ 33 ∷ p.inner) front p.text p.st c p.begun;
  whole = λ ts rest k.
      let P : FormStep → Type 0 = λ o. FormGoes g c ts o in
      let goes_on = subst P e (forms_go g c ts) in
      let w : Spelled doctype_declaration (p.inner ++ (c ∷ ts)) rest = p.whole (c ∷ ts) rest ((goes_on rest).1 k) in
      rw (append_assoc p.inner (c ∷ []) ts) w;
  is_closing = closes_step g h c p.is_closing e;
  no_code = forms.lacks_step forms.is_code g h c p.no_code e;
  open_calm = forms.calm_step 60 g h c p.open_calm e;
  reference_calm = forms.calm_step 38 g h c p.reference_calm e;
}

xml_on : (front : List ℕ) (g h : Form) (c : ℕ) → InXml front g → form_step g c ≡ form.goes h → InXml (front ++ c ∷ []) h
xml_on front g h c p e = record {
  inner = p.inner ++ c ∷ [];
  text = p.text;
  st = p.st;
  begun = more_mark (60 ∷ 63 ∷ 120 ∷ 109 ∷ 108 ∷ p.inner) front p.text p.st c p.begun;
  place = where_more p.inner g h c p.place e;
  no_end = forms.lacks_step forms.is_end g h c p.no_end e;
  open_calm = forms.calm_step 60 g h c p.open_calm e;
  reference_calm = forms.calm_step 38 g h c p.reference_calm e;
}

form_on : (front : List ℕ) (g : Form) (c : ℕ) (o : FormStep) → PastForm front g → form_step g c ≡ o → PastsForm (front ++ c ∷ []) o
form_on front g c (form.goes h) (in_doctype p) e = in_doctype (doctype_on front g h c p e)
form_on front g c (form.goes h) (in_xml p) e = in_xml (xml_on front g h c p e)
form_on front g c form.done p e = tt
form_on front g c form.fails p e = tt

in_forming_past : (front : List ℕ) (st : Stack) (o : FormStep) → PastsForm front o → Pasts front (in_forming st o)
in_forming_past front st (form.goes g) p = p
in_forming_past front st form.done p = tt
in_forming_past front st form.fails p = tt

doctype_first : (front text : List ℕ) (st : Stack) → Behind (60 ∷ 33 ∷ []) front text st → InDoctype front doctype_declaration
doctype_first front text st b = record {
  inner = [];
  text = text;
  st = st;
  begun = b;
  whole = λ ts rest k. k;
  is_closing = doctype_closes;
  no_code = forms.doctype_lacks_code;
  open_calm = forms.doctype_open_calm;
  reference_calm = forms.doctype_reference_calm;
}

xml_first : (front text : List ℕ) (st : Stack) → Behind (60 ∷ 63 ∷ 120 ∷ 109 ∷ 108 ∷ []) front text st → InXml front xml_declaration
xml_first front text st b = record {
  inner = [];
  text = text;
  st = st;
  begun = b;
  place = where_first;
  no_end = forms.xml_lacks_end;
  open_calm = forms.xml_open_calm;
  reference_calm = forms.xml_reference_calm;
}

-- content

content_past : (front : List ℕ) (n : ℕ) (text : List ℕ) (st : Stack) (c : ℕ) → after opened front start ≡ Some (content n text st) → Pasts (front ++ c ∷ []) (in_content n text st c)
unfolding step
content_past front n text (ground l kids ds) c e = either (front ++ c ∷ []) (is_space c) _ _ (λ s. tt) (λ s. tt)
content_past front n text (element name o kids st) c e =
    either (front ++ c ∷ []) (c == 38) _ _
    (λ s. record { before = front; at = content n text (element name o kids st); name = []; is_front = ap (λ x. front ++ x ∷ []) (eqb-true c 38 s); reached = e; begins = refl; past = refl })
    (λ s. either (front ++ c ∷ []) (may_stand n c) _ _ (λ m. tt) (λ m. tt))

bang_past : (front text : List ℕ) (st : Stack) (c : ℕ) → Behind (60 ∷ 33 ∷ []) front text st → Pasts (front ++ c ∷ []) (in_bang text st c)
bang_past front text (ground l kids ds) c b =
    either (front ++ c ∷ []) (may_type l) _ _
    (λ e. in_forming_past (front ++ c ∷ []) (ground typed kids ds) _ (form_on front doctype_declaration c _ (in_doctype (doctype_first front text (ground l kids ds) b)) refl)) (λ e. tt)
bang_past front text (element name o kids st) c b = either (front ++ c ∷ []) (c == 91) _ _ (λ e. tt) (λ e. tt)

plain_past : (front target text : List ℕ) (st : Stack) (c : ℕ) → Pasts front (behind_plain_target target text st c)
plain_past front target text st c = either front (is_target target) _ _ (λ i. either front (is_space c) _ _ (λ s. tt) (λ s. either front (c == 63) _ _ (λ e. tt) (λ e. tt))) (λ i. tt)

-- the target of an XML declaration
declared_target : (target : List ℕ) (st : Stack) → declares st target ≡ true → target ≡ codes "xml"
declared_target target (ground blank kids ds) e = (bytes_eq-Decides target (codes "xml")).0 e
declared_target target (ground fresh kids ds) e = absurd (cc)
declared_target target (ground typed kids ds) e = absurd (cc)
declared_target target (ground rooted kids ds) e = absurd (cc)
declared_target target (element name o kids st) e = absurd (cc)

target_past : (front target text : List ℕ) (st : Stack) (c : ℕ) → Behind (60 ∷ 63 ∷ target) front text st → Pasts (front ++ c ∷ []) (behind_target target text st c)
target_past front target text st c b =
    either (front ++ c ∷ []) (declares st target) _ _
    (λ d.
    let P : List ℕ → Type 0 = λ x. Behind (60 ∷ 63 ∷ x) front text st in
    let first = xml_first front text st (subst P (declared_target target st d) b) in
    in_forming_past (front ++ c ∷ []) _ _ (form_on front xml_declaration c _ (in_xml first) refl))
    (λ d. plain_past (front ++ c ∷ []) target text st c)

in_marked_past : (front text : List ℕ) (st : Stack) (o : LexStep) → Pasts front (in_marked text st o)
in_marked_past front text st (lexing.on l) = tt
in_marked_past front text st (lexing.makes n) = tt
in_marked_past front text st (lexing.says more) = tt
in_marked_past front text st lexing.fails = tt

slash_past : (front text : List ℕ) (st : Stack) → Pasts front (behind_slash text st)
slash_past front text (ground l kids ds) = tt
slash_past front text (element name o kids st) = tt

-- tags

opens_past : (front : List ℕ) (t : RawTag) (st : Stack) (o : Option Opened) → Pasts front (opens t st o)
opens_past front t st None = tt
opens_past front t st (Some o) = tt

closes_past : (front : List ℕ) (t : RawTag) (st : Stack) (o : Option Opened) → Pasts front (closes t st o)
closes_past front t st None = tt
closes_past front t st (Some o) = tt

end_past : (front : List ℕ) (t : RawTag) (st : Stack) (c : ℕ) → Pasts front (at_end opened t st c)
end_past front t st c = either front (c == 62) _ _ (λ e. opens_past front t st _) (λ e. either front (c == 47) _ _ (λ e. tt) (λ e. tt))

tagged_past : (front : List ℕ) (t : RawTag) (st : Stack) (c : ℕ) → Pasts front (behind_tagged opened t st c)
tagged_past front t st c = either front (is_space c) _ _ (λ e. tt) (λ e. end_past front t st c)

naming_past : (front : List ℕ) (st : Stack) (c : ℕ) (o : NameStep) → Pasts front (in_naming opened st c o)
naming_past front st c (on n) = tt
naming_past front st c (behind_name name) = tagged_past front (tag_named name) st c
naming_past front st c fails = tt

attribute_past : (front : List ℕ) (t : RawTag) (st : Stack) (c : ℕ) (o : NameStep) → Pasts front (in_attribute t st c o)
attribute_past front t st c (on n) = tt
attribute_past front t st c (behind_name name) = either front (c == 61) _ _ (λ e. tt) (λ e. either front (is_space c) _ _ (λ e. tt) (λ e. tt))
attribute_past front t st c fails = tt

closed_past : (front : List ℕ) (st : Stack) → Pasts front (closed st)
closed_past front (ground l kids ds) = tt
closed_past front (element name o kids st) = tt

ended_past : (front : List ℕ) (st : Stack) (c : ℕ) → Pasts front (in_ended st c)
ended_past front st c = either front (c == 62) _ _ (λ e. closed_past front st) (λ e. either front (is_space c) _ _ (λ s. tt) (λ s. tt))

ending_past : (front left : List ℕ) (st : Stack) (c : ℕ) → Pasts front (behind_ending left st c)
ending_past front [] st c = ended_past front st c
ending_past front (d ∷ left) st c = either front (c == d) _ _ (λ e. tt) (λ e. tt)

-- a quote that is `&` begins no reference
valued_past : (front : List ℕ) (t : RawTag) (name : _) (quote : ℕ) (read : List ℕ) (st : Stack) (c : ℕ) → after opened front start ≡ Some (valued t name quote read st) → Pasts (front ++ c ∷ []) (step opened (valued t name quote read st) c)
unfolding step
valued_past front t name quote read st c e =
    either (front ++ c ∷ []) (c == quote) _ _ (λ s. tt)
    (λ q. either (front ++ c ∷ []) (c == 38) _ _
    (λ s.
    let P : ℕ → Type 0 = λ x. (x == quote) ≡ false in
    let other : (38 == quote) ≡ false = subst P (eqb-true c 38 s) q in
    record { before = front; at = valued t name quote read st; name = []; is_front = ap (λ x. front ++ x ∷ []) (eqb-true c 38 s); reached = e; begins = rw other refl; past = refl })
    (λ s. either (front ++ c ∷ []) (is_value quote c) _ _ (λ v. tt) (λ v. tt)))

past_step : (front : List ℕ) (s : State) (c : ℕ) → after opened front start ≡ Some s → Past front s → Pasts (front ++ c ∷ []) (step opened s c)
unfolding step
past_step front (content n text st) c e p =
    either (front ++ c ∷ []) (c == 60) _ _
    (λ s. record { before = front; brackets = n; is_front = ap (λ x. front ++ x ∷ []) (eqb-true c 60 s); reached = e })
    (λ s. content_past front n text st c e)
past_step front (refers text r st) c e p = in_reference_past (front ++ c ∷ []) text st (ref_step r c) (reference_on front _ r c p)
past_step front (tag text st) c e p =
    let at = front ++ c ∷ [] in
    either at (c == 47) _ _ (λ s. slash_past at text st)
    (λ s. either at (c == 33) _ _ (λ b. known_mark (60 ∷ []) front text st c 33 b p)
    (λ b. either at (c == 63) _ _ (λ q. known_mark (60 ∷ []) front text st c 63 q p)
    (λ q. either at (starts_name c) _ _ (λ n. either at (may_open st) _ _ (λ m. tt) (λ m. tt)) (λ n. tt))))
past_step front (bang text st) c e p = either (front ++ c ∷ []) (c == 45) _ _ (λ s. tt) (λ s. bang_past front text st c p)
past_step front (question text st) c e p = either (front ++ c ∷ []) (starts_name c) _ _ (λ s. more_mark (60 ∷ 63 ∷ []) front text st c p) (λ s. tt)
past_step front (targeting target text st) c e p =
    either (front ++ c ∷ []) (is_name_char c) _ _ (λ s. more_mark (60 ∷ 63 ∷ target) front text st c p) (λ s. target_past front target text st c p)
past_step front (marked l text st) c e p = in_marked_past (front ++ c ∷ []) text st (lex_step l c)
past_step front (forming g st) c e p = in_forming_past (front ++ c ∷ []) st (form_step g c) (form_on front g c _ p refl)
past_step front (naming n st) c e p = naming_past (front ++ c ∷ []) st c (name_step n c)
past_step front (tagged t st) c e p = tagged_past (front ++ c ∷ []) t st c
past_step front (spaced t st) c e p =
    let at = front ++ c ∷ [] in
    either at (is_space c) _ _ (λ s. tt) (λ s. either at (starts_name c) _ _ (λ n. tt) (λ n. end_past at t st c))
past_step front (attribute t n st) c e p = attribute_past (front ++ c ∷ []) t st c (name_step n c)
past_step front (equals t name st) c e p = let at = front ++ c ∷ [] in either at (c == 61) _ _ (λ s. tt) (λ s. either at (is_space c) _ _ (λ q. tt) (λ q. tt))
past_step front (assigned t name st) c e p = let at = front ++ c ∷ [] in either at (is_space c) _ _ (λ s. tt) (λ s. either at (is_quote c) _ _ (λ q. tt) (λ q. tt))
past_step front (valued t name quote read st) c e p = valued_past front t name quote read st c e
past_step front (value_refers t name quote read r st) c e p = in_value_past (front ++ c ∷ []) t name quote read st (ref_step r c) (reference_on front _ r c p)
past_step front (slashed t st) c e p = either (front ++ c ∷ []) (c == 62) _ _ (λ s. closes_past (front ++ c ∷ []) t st _) (λ s. tt)
past_step front (ending left st) c e p = ending_past (front ++ c ∷ []) left st c
past_step front (ended st) c e p = ended_past (front ++ c ∷ []) st c

-- what was read before each state that is reached

pub empty_more : (front : List ℕ) → front ≡ front ++ []
empty_more [] = refl
empty_more (c ∷ front) = ap (λ xs. c ∷ xs) (empty_more front)

past_after : (front more : List ℕ) (s t : State) → after opened front start ≡ Some s → Past front s → after opened more s ≡ Some t → Past (front ++ more) t
past_after front [] s t e p d =
    let P : State → Type 0 = λ x. Past (front ++ []) x in
    let Q : List ℕ → Type 0 = λ x. Past x s in
    subst P (same_Some _ _ d) (subst Q (empty_more front) p)
past_after front (c ∷ more) s t e p d = go (step opened s c) refl (past_step front s c e p) d (λ x a b k. past_after (front ++ c ∷ []) more x t a b k)
  where
    go : (o : Option State) → step opened s c ≡ o → Pasts (front ++ c ∷ []) o → option_and_then (after opened more) o ≡ Some t → ((x : State) → after opened (front ++ c ∷ []) start ≡ Some x → Past (front ++ c ∷ []) x → after opened more x ≡ Some t → Past ((front ++ c ∷ []) ++ more) t) → Past (front ++ c ∷ more) t
    go None f q k again = absurd (none-some _ k)
    go (Some x) f q k again =
        let there = after_both opened front (c ∷ []) start s x e (ap (option_and_then (after opened [])) f) in
        let P : List ℕ → Type 0 = λ l. Past l t in
        subst P (append_assoc front (c ∷ []) more) (again x there q k)

pub past_of : (front : List ℕ) (s : State) → after opened front start ≡ Some s → Past front s
past_of front s e = past_after [] front start s refl tt e
