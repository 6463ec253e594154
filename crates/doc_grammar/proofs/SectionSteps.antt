-- The steps in a section and in an instruction.
use Rattle.std.proofs.Common.{◌≡◌, ℕ, List, [], ◌∷◌, ◌++◌, refl, true, false, ◌==◌}
use Rattle.xt_tree.specs.declared.trees.Tree.TheVariants.{Pi}
use Rattle.doc_grammar.specs.Lexemes.{Spaces, UpTo, section_close, instruction_close}
use Rattle.doc_grammar.specs.Lexemes as lexemes
use Rattle.doc_grammar.specs.Lexing.{Lex, LexStep, lex_step, on, makes, says, dash, comment, comment_dash, comment_dashes, section_open, section, section_bracket, section_brackets, target_mark, target_space, instruction, instruction_mark, instruction_step}
use Rattle.doc_grammar.specs.Lexing as lexing
use Rattle.doc_grammar.proofs.CharacterFacts.{bracket_char, mark_char}
use Rattle.doc_grammar.proofs.UpToLemmas.{goes_on, closes, on_one, back_one, on_two, back_two, on_three, back_three}
use Rattle.doc_grammar.proofs.LexRests.{Made, node, said, LexRest}
use Rattle.doc_grammar.proofs.LexRests as rests
use Rattle.doc_grammar.proofs.LexSteps.{LexGoes, choose, at, chars_on, dash_goes, comment_goes, comment_dash_goes, comment_dashes_goes, open_goes}
use Rattle.xt_names.specs.Characters.{is_space, is_char, Ends}
use Rattle.xt_names.proofs.BoolLemmas.{no}

-- sections

section_on : {c : ℕ} {read ts rest : List ℕ} {m : Made} → (c == 93) ≡ false → LexRest (section read) (c ∷ ts) m rest → (is_char c ≡ true) × LexRest (section (read ++ c ∷ [])) ts m rest
section_on e (rests.in_section t) = let k = on_one e t in (k.0, rests.in_section k.1)

section_back : {c : ℕ} {read ts rest : List ℕ} {m : Made} → (c == 93) ≡ false → is_char c ≡ true → LexRest (section (read ++ c ∷ [])) ts m rest → LexRest (section read) (c ∷ ts) m rest
section_back e p (rests.in_section t) = rests.in_section (back_one e p t)

to_bracket : {read ts rest : List ℕ} {m : Made} → LexRest (section read) (93 ∷ ts) m rest → LexRest (section_bracket read) ts m rest
to_bracket (rests.in_section t) = rests.in_section_bracket t

from_bracket : {read ts rest : List ℕ} {m : Made} → LexRest (section_bracket read) ts m rest → LexRest (section read) (93 ∷ ts) m rest
from_bracket (rests.in_section_bracket t) = rests.in_section t

section_goes : (read : List ℕ) (c : ℕ) (ts : List ℕ) → LexGoes (section read) c ts (lex_step (section read) c)
section_goes read c ts =
    choose (section read) c ts (c == 93) _ _
    (λ e. at (section read) c 93 ts (on (section_bracket read)) e (λ m rest. (to_bracket, from_bracket)))
    (λ e. chars_on (section read) (section (read ++ c ∷ [])) c ts (λ m rest k. section_on e k) (λ m rest p k. section_back e p k))

bracket_on : {c : ℕ} {read ts rest : List ℕ} {m : Made} → (c == 93) ≡ false → LexRest (section_bracket read) (c ∷ ts) m rest → (is_char c ≡ true) × LexRest (section (read ++ 93 ∷ c ∷ [])) ts m rest
bracket_on e (rests.in_section_bracket t) = let k = on_two e e t in (k.0, rests.in_section k.1)

bracket_back : {c : ℕ} {read ts rest : List ℕ} {m : Made} → (c == 93) ≡ false → is_char c ≡ true → LexRest (section (read ++ 93 ∷ c ∷ [])) ts m rest → LexRest (section_bracket read) (c ∷ ts) m rest
bracket_back e p (rests.in_section t) = rests.in_section_bracket (back_two e e bracket_char p t)

to_brackets : {read ts rest : List ℕ} {m : Made} → LexRest (section_bracket read) (93 ∷ ts) m rest → LexRest (section_brackets read) ts m rest
to_brackets (rests.in_section_bracket t) = rests.in_section_brackets t

from_brackets : {read ts rest : List ℕ} {m : Made} → LexRest (section_brackets read) ts m rest → LexRest (section_bracket read) (93 ∷ ts) m rest
from_brackets (rests.in_section_brackets t) = rests.in_section_bracket t

bracket_goes : (read : List ℕ) (c : ℕ) (ts : List ℕ) → LexGoes (section_bracket read) c ts (lex_step (section_bracket read) c)
bracket_goes read c ts =
    choose (section_bracket read) c ts (c == 93) _ _
    (λ e. at (section_bracket read) c 93 ts (on (section_brackets read)) e (λ m rest. (to_brackets, from_brackets)))
    (λ e. chars_on (section_bracket read) (section (read ++ 93 ∷ c ∷ [])) c ts (λ m rest k. bracket_on e k) (λ m rest p k. bracket_back e p k))

brackets_on : {c : ℕ} {read ts rest : List ℕ} {m : Made} → (c == 62) ≡ false → (c == 93) ≡ false → LexRest (section_brackets read) (c ∷ ts) m rest → (is_char c ≡ true) × LexRest (section (read ++ 93 ∷ 93 ∷ c ∷ [])) ts m rest
brackets_on x e (rests.in_section_brackets t) = let k = on_three e x t in (k.0, rests.in_section k.1)

brackets_back : {c : ℕ} {read ts rest : List ℕ} {m : Made} → (c == 62) ≡ false → (c == 93) ≡ false → is_char c ≡ true → LexRest (section (read ++ 93 ∷ 93 ∷ c ∷ [])) ts m rest → LexRest (section_brackets read) (c ∷ ts) m rest
brackets_back x e p (rests.in_section t) = rests.in_section_brackets (back_three e x bracket_char p t)

another_bracket : {read ts rest : List ℕ} {m : Made} → LexRest (section_brackets read) (93 ∷ ts) m rest → LexRest (section_brackets (read ++ 93 ∷ [])) ts m rest
another_bracket (rests.in_section_brackets t) = rests.in_section_brackets (goes_on refl t).1

back_bracket : {read ts rest : List ℕ} {m : Made} → LexRest (section_brackets (read ++ 93 ∷ [])) ts m rest → LexRest (section_brackets read) (93 ∷ ts) m rest
back_bracket (rests.in_section_brackets t) = rests.in_section_brackets (lexemes.more bracket_char refl t)

fourth : {a b c d e f : ℕ} {ts us : List ℕ} → a ∷ b ∷ c ∷ ts ≡ d ∷ e ∷ f ∷ us → us ≡ ts
fourth e = cc

section_end : {read ts rest : List ℕ} {m : Made} → LexRest (section_brackets read) (62 ∷ ts) m rest → (m ≡ said read) × (rest ≡ ts)
section_end (rests.in_section_brackets t) = let e = closes refl t in (rw e.0 refl, fourth e.1)

brackets_goes : (read : List ℕ) (c : ℕ) (ts : List ℕ) → LexGoes (section_brackets read) c ts (lex_step (section_brackets read) c)
brackets_goes read c ts =
    choose (section_brackets read) c ts (c == 62) _ _
    (λ e. at (section_brackets read) c 62 ts (says read) e ((λ m rest k. section_end k), rests.in_section_brackets (lexemes.whole refl)))
    (λ x. choose (section_brackets read) c ts (c == 93) _ _
    (λ e. at (section_brackets read) c 93 ts (on (section_brackets (read ++ 93 ∷ []))) e (λ m rest. (another_bracket, back_bracket)))
    (λ e. chars_on (section_brackets read) (section (read ++ 93 ∷ 93 ∷ c ∷ [])) c ts (λ m rest k. brackets_on x e k) (λ m rest p k. brackets_back x e p k)))

-- instructions

mark_end : {target ts rest : List ℕ} {m : Made} → LexRest (target_mark target) (62 ∷ ts) m rest → (m ≡ node (Pi target [])) × (rest ≡ ts)
mark_end rests.in_target_mark = (refl, refl)

no_mark : {c : ℕ} {target ts rest : List ℕ} {m : Made} → (c == 62) ≡ false → LexRest (target_mark target) (c ∷ ts) m rest → ⊥
no_mark e rests.in_target_mark = cc

target_mark_goes : (target : List ℕ) (c : ℕ) (ts : List ℕ) → LexGoes (target_mark target) c ts (lex_step (target_mark target) c)
target_mark_goes target c ts =
    choose (target_mark target) c ts (c == 62) _ _
    (λ e. at (target_mark target) c 62 ts (makes (Pi target [])) e ((λ m rest k. mark_end k), rests.in_target_mark))
    (λ e m rest k. no_mark e k)

instruction_on : {c : ℕ} {target read ts rest : List ℕ} {m : Made} → (c == 63) ≡ false → LexRest (instruction target read) (c ∷ ts) m rest → (is_char c ≡ true) × LexRest (instruction target (read ++ c ∷ [])) ts m rest
instruction_on e (rests.in_instruction t) = let k = on_one e t in (k.0, rests.in_instruction k.1)

instruction_back : {c : ℕ} {target read ts rest : List ℕ} {m : Made} → (c == 63) ≡ false → is_char c ≡ true → LexRest (instruction target (read ++ c ∷ [])) ts m rest → LexRest (instruction target read) (c ∷ ts) m rest
instruction_back e p (rests.in_instruction t) = rests.in_instruction (back_one e p t)

to_mark : {target read ts rest : List ℕ} {m : Made} → LexRest (instruction target read) (63 ∷ ts) m rest → LexRest (instruction_mark target read) ts m rest
to_mark (rests.in_instruction t) = rests.in_instruction_mark t

from_mark : {target read ts rest : List ℕ} {m : Made} → LexRest (instruction_mark target read) ts m rest → LexRest (instruction target read) (63 ∷ ts) m rest
from_mark (rests.in_instruction_mark t) = rests.in_instruction t

instruction_goes : (target read : List ℕ) (c : ℕ) (ts : List ℕ) → LexGoes (instruction target read) c ts (instruction_step target read c)
instruction_goes target read c ts =
    choose (instruction target read) c ts (c == 63) _ _
    (λ e. at (instruction target read) c 63 ts (on (instruction_mark target read)) e (λ m rest. (to_mark, from_mark)))
    (λ e. chars_on (instruction target read) (instruction target (read ++ c ∷ [])) c ts (λ m rest k. instruction_on e k) (λ m rest p k. instruction_back e p k))

marked_on : {c : ℕ} {target read ts rest : List ℕ} {m : Made} → (c == 62) ≡ false → (c == 63) ≡ false → LexRest (instruction_mark target read) (c ∷ ts) m rest → (is_char c ≡ true) × LexRest (instruction target (read ++ 63 ∷ c ∷ [])) ts m rest
marked_on x e (rests.in_instruction_mark t) = let k = on_two e x t in (k.0, rests.in_instruction k.1)

marked_back : {c : ℕ} {target read ts rest : List ℕ} {m : Made} → (c == 62) ≡ false → (c == 63) ≡ false → is_char c ≡ true → LexRest (instruction target (read ++ 63 ∷ c ∷ [])) ts m rest → LexRest (instruction_mark target read) (c ∷ ts) m rest
marked_back x e p (rests.in_instruction t) = rests.in_instruction_mark (back_two e x mark_char p t)

another_mark : {target read ts rest : List ℕ} {m : Made} → LexRest (instruction_mark target read) (63 ∷ ts) m rest → LexRest (instruction_mark target (read ++ 63 ∷ [])) ts m rest
another_mark (rests.in_instruction_mark t) = rests.in_instruction_mark (goes_on refl t).1

back_mark : {target read ts rest : List ℕ} {m : Made} → LexRest (instruction_mark target (read ++ 63 ∷ [])) ts m rest → LexRest (instruction_mark target read) (63 ∷ ts) m rest
back_mark (rests.in_instruction_mark t) = rests.in_instruction_mark (lexemes.more mark_char refl t)

third : {a b c d : ℕ} {ts us : List ℕ} → a ∷ b ∷ ts ≡ c ∷ d ∷ us → us ≡ ts
third e = cc

instruction_end : {target read ts rest : List ℕ} {m : Made} → LexRest (instruction_mark target read) (62 ∷ ts) m rest → (m ≡ node (Pi target read)) × (rest ≡ ts)
instruction_end (rests.in_instruction_mark t) = let e = closes refl t in (rw e.0 refl, third e.1)

instruction_mark_goes : (target read : List ℕ) (c : ℕ) (ts : List ℕ) → LexGoes (instruction_mark target read) c ts (lex_step (instruction_mark target read) c)
instruction_mark_goes target read c ts =
    choose (instruction_mark target read) c ts (c == 62) _ _
    (λ e. at (instruction_mark target read) c 62 ts (makes (Pi target read)) e ((λ m rest k. instruction_end k), rests.in_instruction_mark (lexemes.whole refl)))
    (λ x. choose (instruction_mark target read) c ts (c == 63) _ _
    (λ e. at (instruction_mark target read) c 63 ts (on (instruction_mark target (read ++ 63 ∷ []))) e (λ m rest. (another_mark, back_mark)))
    (λ e. chars_on (instruction_mark target read) (instruction target (read ++ 63 ∷ c ∷ [])) c ts (λ m rest k. marked_on x e k) (λ m rest p k. marked_back x e p k)))

-- white space after a target

space_on : {c : ℕ} {target ts rest : List ℕ} {m : Made} → is_space c ≡ true → LexRest (target_space target) (c ∷ ts) m rest → LexRest (target_space target) ts m rest
space_on s (rests.in_target_space lexemes.no_space e t) = no s e
space_on s (rests.in_target_space (lexemes.a_space p k) e t) = rests.in_target_space k e t

space_back : {c : ℕ} {target ts rest : List ℕ} {m : Made} → is_space c ≡ true → LexRest (target_space target) ts m rest → LexRest (target_space target) (c ∷ ts) m rest
space_back s (rests.in_target_space k e t) = rests.in_target_space (lexemes.a_space s k) e t

space_over : {c : ℕ} {target ts rest : List ℕ} {m : Made} → is_space c ≡ false → LexRest (target_space target) (c ∷ ts) m rest → LexRest (instruction target []) (c ∷ ts) m rest
space_over s (rests.in_target_space lexemes.no_space e t) = rests.in_instruction t
space_over s (rests.in_target_space (lexemes.a_space p k) e t) = no p s

space_begin : {c : ℕ} {target ts rest : List ℕ} {m : Made} → is_space c ≡ false → LexRest (instruction target []) (c ∷ ts) m rest → LexRest (target_space target) (c ∷ ts) m rest
space_begin s (rests.in_instruction t) = rests.in_target_space lexemes.no_space s t

through : (l l' : Lex) (c : ℕ) (ts : List ℕ) (o : LexStep) → ((m : Made) (rest : List ℕ) → LexRest l (c ∷ ts) m rest → LexRest l' (c ∷ ts) m rest) → ((m : Made) (rest : List ℕ) → LexRest l' (c ∷ ts) m rest → LexRest l (c ∷ ts) m rest) → LexGoes l' c ts o → LexGoes l c ts o
through l l' c ts (on x) f g k = λ m rest. ((λ r. (k m rest).0 (f m rest r)), (λ r. g m rest ((k m rest).1 r)))
through l l' c ts (makes n) f g k = ((λ m rest r. k.0 m rest (f m rest r)), g _ _ k.1)
through l l' c ts (says more) f g k = ((λ m rest r. k.0 m rest (f m rest r)), g _ _ k.1)
through l l' c ts lexing.fails f g k = λ m rest r. k m rest (f m rest r)

target_space_goes : (target : List ℕ) (c : ℕ) (ts : List ℕ) → LexGoes (target_space target) c ts (lex_step (target_space target) c)
target_space_goes target c ts =
    choose (target_space target) c ts (is_space c) _ _
    (λ s m rest. ((λ k. space_on s k), (λ k. space_back s k)))
    (λ s. through (target_space target) (instruction target []) c ts _ (λ m rest k. space_over s k) (λ m rest k. space_begin s k) (instruction_goes target [] c ts))

pub lexes_go : (l : Lex) (c : ℕ) (ts : List ℕ) → LexGoes l c ts (lex_step l c)
lexes_go dash c ts = dash_goes c ts
lexes_go (comment read) c ts = comment_goes read c ts
lexes_go (comment_dash read) c ts = comment_dash_goes read c ts
lexes_go (comment_dashes read) c ts = comment_dashes_goes read c ts
lexes_go (section_open left) c ts = open_goes left c ts
lexes_go (section read) c ts = section_goes read c ts
lexes_go (section_bracket read) c ts = bracket_goes read c ts
lexes_go (section_brackets read) c ts = brackets_goes read c ts
lexes_go (target_mark target) c ts = target_mark_goes target c ts
lexes_go (target_space target) c ts = target_space_goes target c ts
lexes_go (instruction target read) c ts = instruction_goes target read c ts
lexes_go (instruction_mark target read) c ts = instruction_mark_goes target read c ts
