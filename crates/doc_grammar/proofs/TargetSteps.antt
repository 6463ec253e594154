-- The steps in the target of an instruction, which may be that of the XML declaration.
use Rattle.std.proofs.Common.{◌≡◌, ℕ, List, [], ◌∷◌, ◌++◌, refl, sym, ◌∙◌, subst, true, false, Some, ◌==◌, eq-eqb, codes, append_assoc}
use Rattle.std.specs.Str.{bytes_eq}
use Rattle.std.proofs.lemmas.Slice.Eq.{bytes_eq-Decides}
use Rattle.xt_names.specs.declared.names.Binding.{Binding}
use Rattle.xt_tree.specs.Sound.{is_xml_in_any_case}
use Rattle.xt_tree.specs.declared.trees.Tree.{Tree}
use Rattle.xt_tree.specs.declared.trees.Tree.TheVariants.{Pi}
use Rattle.doc_grammar.specs.RawNames.{RawName}
use Rattle.doc_grammar.specs.Scopes.{Opened}
use Rattle.doc_grammar.specs.Lexemes.{Named, NCName, is_target}
use Rattle.doc_grammar.specs.Lexemes as lexemes
use Rattle.doc_grammar.specs.Forms.{Spelled, form_step}
use Rattle.doc_grammar.specs.Forms as forms
use Rattle.doc_grammar.specs.Prolog.{xml_declaration}
use Rattle.doc_grammar.specs.Document.{Rules, blank, fresh, typed, rooted, Level, Top, Element}
use Rattle.doc_grammar.specs.Document as doc
use Rattle.doc_grammar.specs.Lexing.{target_mark, target_space}
use Rattle.doc_grammar.specs.Machine.{Stack, ground, element, marked, with_text, with_aside, behind_plain_target, behind_target}
use Rattle.doc_grammar.proofs.CharacterFacts.{x_starts, m_name, l_name, mark_name, mark_space, mark_starts, open_space, open_stands}
use Rattle.doc_grammar.proofs.Residue.{Inside, top, topped, aside_placed}
use Rattle.doc_grammar.proofs.Residue as residue
use Rattle.doc_grammar.proofs.LexRests.{LexRest, node}
use Rattle.doc_grammar.proofs.LexRests as lex
use Rattle.doc_grammar.proofs.Rests.{Targeted, bare, with_data, InTarget, instruction, declaration, Between, InMarked, InForm, Then}
use Rattle.doc_grammar.proofs.Goes.{Goes, choose, through, at, head_same, tail_same}
use Rattle.doc_grammar.proofs.NameSteps.{goes_on_named, ends_named, qname_begins}
use Rattle.doc_grammar.proofs.ContentSteps.{form_steps}
use Rattle.xt_names.specs.Characters.{is_space, is_name_char, starts_name, Ends}
use Rattle.xt_names.proofs.BoolLemmas.{no}
use Rattle.xt_names.proofs.CharacterLemmas.{space_name}

-- after `<?`

pub xml_space : {c : ℕ} {ts rest : List ℕ} → Spelled xml_declaration (c ∷ ts) rest → is_space c ≡ true
unfolding xml_declaration
xml_space (forms.first_one h k) = h

ends_xml : {ts rest : List ℕ} → Spelled xml_declaration ts rest → Ends is_name_char ts
ends_xml {ts = []} k = tt
ends_xml {ts = c ∷ ts} k = space_name c (xml_space k)

pub xml_named : {ts rest : List ℕ} → Spelled xml_declaration ts rest → Named (120 ∷ []) (109 ∷ 108 ∷ ts) (codes "xml") ts
xml_named k = lexemes.more m_name (lexemes.more l_name (lexemes.whole (ends_xml k)))

pub no_element : {rules : Rules} {k : ℕ} {scope : List Binding} {ts rest : List ℕ} {n : Tree} → Element rules k scope (60 ∷ 63 ∷ ts) n rest → ⊥
no_element (doc.empty h d a o) = no (qname_begins d).0 mark_starts
no_element (doc.full h d a o c e) = no (qname_begins d).0 mark_starts

pub question_on : {rules : Rules} {w : Tree} {n c : ℕ} {ts text : List ℕ} {st : Stack} → Inside rules w n text st (60 ∷ 63 ∷ c ∷ ts) → (starts_name c ≡ true) × InTarget rules w (c ∷ []) text st ts
question_on (top (doc.declares f k)) = (x_starts, declaration (xml_named f) f k)
question_on (top (doc.space s k)) = no s open_space
question_on (top (doc.aside (lexemes.instruction (lexemes.bare (lexemes.ncname s d) i)) k)) = (s, instruction (bare d i) (top k))
question_on (top (doc.aside (lexemes.instruction (lexemes.with_text (lexemes.ncname s d) i p q e u)) k)) = (s, instruction (with_data d i p q e u) (top k))
question_on (top (doc.root m e k)) = absurd (no_element e)
question_on {n = n} (residue.says p k) = no p (open_stands n)
question_on (residue.quotes s k) = elim s [ ]
question_on (residue.child e k) = absurd (no_element e)
question_on (residue.aside (lexemes.instruction (lexemes.bare (lexemes.ncname s d) i)) k) = (s, instruction (bare d i) k)
question_on (residue.aside (lexemes.instruction (lexemes.with_text (lexemes.ncname s d) i p q e u)) k) = (s, instruction (with_data d i p q e u) k)

-- a name and what follows it are what was read and what is to come
named_whole : {read ts name rest : List ℕ} → Named read ts name rest → read ++ ts ≡ name ++ rest
named_whole {read = read} (lexemes.more {c = c} {ts = ts} p k) = sym (append_assoc read (c ∷ []) ts) ∙ named_whole k
named_whole (lexemes.whole e) = refl

pub question_back : {rules : Rules} {w : Tree} {n c : ℕ} {ts text : List ℕ} {st : Stack} → starts_name c ≡ true → InTarget rules w (c ∷ []) text st ts → Inside rules w n text st (60 ∷ 63 ∷ c ∷ ts)
question_back {text = text} {st = st} s (instruction (bare d i) k) = aside_placed text st (lexemes.instruction (lexemes.bare (lexemes.ncname s d) i)) k
question_back {text = text} {st = st} s (instruction (with_data d i p q e u) k) = aside_placed text st (lexemes.instruction (lexemes.with_text (lexemes.ncname s d) i p q e u)) k
question_back {rules = rules} {w = w} {n = n} {c = c} {ts = ts} {text = text} s (declaration {kids = kids} {ds = ds} {mid = mid} d f k) =
    let P : List ℕ → Type 0 = λ x. Inside rules w n text (ground blank kids ds) (60 ∷ 63 ∷ x) in
    let same : 120 ∷ 109 ∷ 108 ∷ mid ≡ c ∷ ts = sym (named_whole d) in subst P same (top (doc.declares f k))

-- in the target

pub target_on : {rules : Rules} {w : Tree} {c : ℕ} {read ts text : List ℕ} {st : Stack} → is_name_char c ≡ true → InTarget rules w read text st (c ∷ ts) → InTarget rules w (read ++ c ∷ []) text st ts
target_on p (instruction (bare d i) k) = instruction (bare (goes_on_named p d) i) k
target_on p (instruction (with_data d i s q e u) k) = instruction (with_data (goes_on_named p d) i s q e u) k
target_on p (declaration d f k) = declaration (goes_on_named p d) f k

pub target_back : {rules : Rules} {w : Tree} {c : ℕ} {read ts text : List ℕ} {st : Stack} → is_name_char c ≡ true → InTarget rules w (read ++ c ∷ []) text st ts → InTarget rules w read text st (c ∷ ts)
target_back p (instruction (bare d i) k) = instruction (bare (lexemes.more p d) i) k
target_back p (instruction (with_data d i s q e u) k) = instruction (with_data (lexemes.more p d) i s q e u) k
target_back p (declaration d f k) = declaration (lexemes.more p d) f k

-- after the target

-- an instruction's rest, and what follows it
record InInstruction (rules : Rules) (w : Tree) (read text : List ℕ) (st : Stack) (ts : List ℕ) : Type 0 where
  target : List ℕ
  inner : List ℕ
  rest : List ℕ
  targeted : Targeted read ts target inner rest
  behind : Between rules w (with_aside (Pi target inner) (with_text text st)) rest

target_same : {c : ℕ} {read ts target inner rest : List ℕ} → is_name_char c ≡ false → Targeted read (c ∷ ts) target inner rest → (target ≡ read) × (is_target read ≡ true)
target_same p (bare d i) = let e = ends_named p d in (e.same_name, rw e.same_name at i)
target_same p (with_data d i s q e u) = let f = ends_named p d in (f.same_name, rw f.same_name at i)

-- white space follows it
to_space : {c : ℕ} {read ts target inner rest : List ℕ} → is_name_char c ≡ false → is_space c ≡ true → Targeted read (c ∷ ts) target inner rest → LexRest (target_space target) ts (node (Pi target inner)) rest
to_space {c = c} p s (bare d i) = let e = ends_named p d in let space : is_space 63 ≡ true = rw (head_same e.same_rest) at s in no space mark_space
to_space {target = target} {inner = inner} {rest = rest} p s (with_data d i q k e u) =
    let f = ends_named p d in
    let P : List ℕ → Type 0 = λ x. LexRest (target_space target) x (node (Pi target inner)) rest in
    subst P (sym (tail_same f.same_rest)) (lex.in_target_space k e u)

-- or a question mark
to_mark : {read ts target inner rest : List ℕ} → Targeted read (63 ∷ ts) target inner rest → LexRest (target_mark target) ts (node (Pi target inner)) rest
to_mark {target = target} {inner = inner} {rest = rest} (bare d i) =
    let e = ends_named mark_name d in
    let P : List ℕ → Type 0 = λ x. LexRest (target_mark target) x (node (Pi target [])) rest in
    subst P (sym (tail_same e.same_rest)) lex.in_target_mark
to_mark (with_data d i s k e u) = let f = ends_named mark_name d in let space : is_space 63 ≡ true = rw (sym (head_same f.same_rest)) at s in no space mark_space

no_other : {c : ℕ} {read ts target inner rest : List ℕ} → is_name_char c ≡ false → is_space c ≡ false → (c == 63) ≡ false → Targeted read (c ∷ ts) target inner rest → ⊥
no_other {c = c} p s m (bare d i) = let e = ends_named p d in no (eq-eqb c 63 (head_same e.same_rest)) m
no_other {c = c} p s m (with_data d i q k e u) = let f = ends_named p d in let space : is_space c ≡ true = rw (sym (head_same f.same_rest)) at q in no space s

in_space : {rules : Rules} {w : Tree} {c : ℕ} {read text ts : List ℕ} {st : Stack} → is_name_char c ≡ false → is_space c ≡ true → InInstruction rules w read text st (c ∷ ts) → InMarked rules w (target_space read) text st ts
in_space {rules = rules} {w = w} {read = read} {text = text} {ts = ts} {st = st} p s b =
    let P : List ℕ → Type 0 = λ x. InMarked rules w (target_space x) text st ts in
    subst P (target_same p b.targeted).0 (record { made = node (Pi b.target b.inner); mid = b.rest; lex = to_space p s b.targeted; behind = b.behind })

in_mark : {rules : Rules} {w : Tree} {read text ts : List ℕ} {st : Stack} → InInstruction rules w read text st (63 ∷ ts) → InMarked rules w (target_mark read) text st ts
in_mark {rules = rules} {w = w} {read = read} {text = text} {ts = ts} {st = st} b =
    let P : List ℕ → Type 0 = λ x. InMarked rules w (target_mark x) text st ts in
    subst P (target_same mark_name b.targeted).0 (record { made = node (Pi b.target b.inner); mid = b.rest; lex = to_mark b.targeted; behind = b.behind })

from_space : {rules : Rules} {w : Tree} {c : ℕ} {read text ts : List ℕ} {st : Stack} → is_name_char c ≡ false → is_target read ≡ true → is_space c ≡ true → InMarked rules w (target_space read) text st ts → InInstruction rules w read text st (c ∷ ts)
from_space {rules = rules} {w = w} {c = c} {read = read} {text = text} {ts = ts} {st = st} p i s b = go b.lex b.behind where
  go : {made : _} {mid : List ℕ} → LexRest (target_space read) ts made mid → Then rules w text st made mid → InInstruction rules w read text st (c ∷ ts)
  go (lex.in_target_space k e u) behind = record { target = read; inner = _; rest = _; targeted = with_data (lexemes.whole p) i s k e u; behind = behind }

from_mark : {rules : Rules} {w : Tree} {read text ts : List ℕ} {st : Stack} → is_target read ≡ true → InMarked rules w (target_mark read) text st ts → InInstruction rules w read text st (63 ∷ ts)
from_mark {rules = rules} {w = w} {read = read} {text = text} {st = st} i b = go b.lex b.behind where
  go : {made : _} {mid ts : List ℕ} → LexRest (target_mark read) ts made mid → Then rules w text st made mid → InInstruction rules w read text st (63 ∷ ts)
  go lex.in_target_mark behind = record { target = read; inner = []; rest = _; targeted = bare (lexemes.whole mark_name) i; behind = behind }

plain_steps : (rules : Rules) (w : Tree) (read text : List ℕ) (st : Stack) (c : ℕ) (ts : List ℕ) → is_name_char c ≡ false → Goes rules w (InInstruction rules w read text st (c ∷ ts)) ts (behind_plain_target read text st c)
plain_steps rules w read text st c ts p =
    choose rules w (InInstruction rules w read text st (c ∷ ts)) ts (is_target read) _ _
    (λ i. choose rules w (InInstruction rules w read text st (c ∷ ts)) ts (is_space c) _ _
    (λ s. ((λ b. in_space p s b), (λ b. from_space p i s b)))
    (λ s. choose rules w (InInstruction rules w read text st (c ∷ ts)) ts (c == 63) _ _
    (λ e. at rules w (InInstruction rules w read text st) c 63 ts (Some (marked (target_mark read) text st)) e ((λ b. in_mark b), (λ b. from_mark i b)))
    (λ m b. no_other p s m b.targeted)))
    (λ i b. no (target_same p b.targeted).1 i)

from_instruction : {rules : Rules} {w : Tree} {read text ts : List ℕ} {st : Stack} → InInstruction rules w read text st ts → InTarget rules w read text st ts
from_instruction b = instruction b.targeted b.behind

-- `xml` is the target of no instruction
pub xml_target : is_target (codes "xml") ≡ false
unfolding is_target is_xml_in_any_case
xml_target = refl

to_declaration : {rules : Rules} {w : Tree} {c : ℕ} {read text ts : List ℕ} {kids : List Tree} {ds : List (List Binding)} → is_name_char c ≡ false → read ≡ codes "xml" → InTarget rules w read text (ground blank kids ds) (c ∷ ts) → InForm rules w xml_declaration (ground fresh kids ds) (c ∷ ts)
to_declaration p x (instruction t k) = let i = (target_same p t).1 in no (rw x at i) xml_target
to_declaration p x (declaration d f k) = let e = ends_named p d in record { mid = _; form = rw e.same_rest at f; behind = top k }

to_instruction : {rules : Rules} {w : Tree} {c : ℕ} {read text ts : List ℕ} {kids : List Tree} {ds : List (List Binding)} → is_name_char c ≡ false → (read ≡ codes "xml" → ⊥) → InTarget rules w read text (ground blank kids ds) (c ∷ ts) → InInstruction rules w read text (ground blank kids ds) (c ∷ ts)
to_instruction p x (instruction t k) = record { target = _; inner = _; rest = _; targeted = t; behind = k }
to_instruction p x (declaration d f k) = absurd (x (sym (ends_named p d).same_name))

from_declaration : {rules : Rules} {w : Tree} {c : ℕ} {read text ts : List ℕ} {kids : List Tree} {ds : List (List Binding)} → is_name_char c ≡ false → read ≡ codes "xml" → InForm rules w xml_declaration (ground fresh kids ds) (c ∷ ts) → InTarget rules w read text (ground blank kids ds) (c ∷ ts)
from_declaration {c = c} {read = read} {ts = ts} p x b =
    let P : List ℕ → Type 0 = λ n. Named read (c ∷ ts) n (c ∷ ts) in
    declaration (subst P x (lexemes.whole p)) b.form (topped b.behind)

-- where no declaration may come
plain_only : (rules : Rules) (w : Tree) (read text : List ℕ) (st : Stack) (c : ℕ) (ts : List ℕ) → is_name_char c ≡ false → (InTarget rules w read text st (c ∷ ts) → InInstruction rules w read text st (c ∷ ts)) → Goes rules w (InTarget rules w read text st (c ∷ ts)) ts (behind_plain_target read text st c)
plain_only rules w read text st c ts p f = through rules w _ (InInstruction rules w read text st (c ∷ ts)) ts _ f (λ b. from_instruction b) (plain_steps rules w read text st c ts p)

below_element : {rules : Rules} {w : Tree} {read text ts : List ℕ} {name : RawName} {o : Opened} {kids : List Tree} {st : Stack} → InTarget rules w read text (element name o kids st) ts → InInstruction rules w read text (element name o kids st) ts
below_element (instruction t k) = record { target = _; inner = _; rest = _; targeted = t; behind = k }

below_fresh : {rules : Rules} {w : Tree} {read text ts : List ℕ} {kids : List Tree} {ds : List (List Binding)} → InTarget rules w read text (ground fresh kids ds) ts → InInstruction rules w read text (ground fresh kids ds) ts
below_fresh (instruction t k) = record { target = _; inner = _; rest = _; targeted = t; behind = k }

below_typed : {rules : Rules} {w : Tree} {read text ts : List ℕ} {kids : List Tree} {ds : List (List Binding)} → InTarget rules w read text (ground typed kids ds) ts → InInstruction rules w read text (ground typed kids ds) ts
below_typed (instruction t k) = record { target = _; inner = _; rest = _; targeted = t; behind = k }

below_rooted : {rules : Rules} {w : Tree} {read text ts : List ℕ} {kids : List Tree} {ds : List (List Binding)} → InTarget rules w read text (ground rooted kids ds) ts → InInstruction rules w read text (ground rooted kids ds) ts
below_rooted (instruction t k) = record { target = _; inner = _; rest = _; targeted = t; behind = k }

pub target_steps : (rules : Rules) (w : Tree) (read text : List ℕ) (st : Stack) (c : ℕ) (ts : List ℕ) → is_name_char c ≡ false → Goes rules w (InTarget rules w read text st (c ∷ ts)) ts (behind_target read text st c)
target_steps rules w read text (ground blank kids ds) c ts p =
    choose rules w (InTarget rules w read text (ground blank kids ds) (c ∷ ts)) ts (bytes_eq read (codes "xml")) _ _
    (λ e. let x = (bytes_eq-Decides read (codes "xml")).0 e in
    through rules w _ (InForm rules w xml_declaration (ground fresh kids ds) (c ∷ ts)) ts _ (λ b. to_declaration p x b) (λ b. from_declaration p x b) (form_steps rules w xml_declaration (ground fresh kids ds) c ts))
    (λ e. plain_only rules w read text (ground blank kids ds) c ts p (λ b. to_instruction p (λ x. no ((bytes_eq-Decides read (codes "xml")).1 x) e) b))
target_steps rules w read text (ground fresh kids ds) c ts p = plain_only rules w read text (ground fresh kids ds) c ts p (λ b. below_fresh b)
target_steps rules w read text (ground typed kids ds) c ts p = plain_only rules w read text (ground typed kids ds) c ts p (λ b. below_typed b)
target_steps rules w read text (ground rooted kids ds) c ts p = plain_only rules w read text (ground rooted kids ds) c ts p (λ b. below_rooted b)
target_steps rules w read text (element name o kids st) c ts p = plain_only rules w read text (element name o kids st) c ts p (λ b. below_element b)
