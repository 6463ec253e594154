-- What holds of each state that is reached: what it takes to complete it.
use Rattle.std.proofs.Common.{◌≡◌, ℕ, ◌+◌, ◌*◌, ◌≤◌, List, [], ◌∷◌, ◌++◌, refl, arith, Bool, true, false, cond, Option, Some, None, ◌==◌, nat_le}
use Rattle.std.proofs.lemmas.Bool.{leb-true}
use Rattle.doc_grammar.specs.Characters.{is_value, may_stand, Base, decimal, hexadecimal, base_of, digit, last_char}
use Rattle.doc_grammar.specs.RawNames.{RawName, RawTag, tag_named}
use Rattle.doc_grammar.specs.Scopes.{Opened}
use Rattle.doc_grammar.specs.Lexemes.{is_target}
use Rattle.doc_grammar.specs.Forms.{FormStep, form_step}
use Rattle.doc_grammar.specs.Forms as form
use Rattle.doc_grammar.specs.Prolog.{xml_declaration, doctype_declaration}
use Rattle.doc_grammar.specs.Document.{Rules, may_type, typed}
use Rattle.doc_grammar.specs.Lexing.{Ref, RefStep, ref_step, spelling_step, entity_step, with_digit, first_digit, ampersand, letter_a, spelling, hash, hash_x, number, Lex, LexStep, lex_step, on_char, section_open_step, instruction_step, dash, comment, comment_dash, comment_dashes, section_open, section, section_bracket, section_brackets, target_mark, target_space, instruction, instruction_mark}
use Rattle.doc_grammar.specs.Lexing as lexing
use Rattle.doc_grammar.specs.Machine.{Stack, ground, element, NameStep, on, behind_name, fails, name_step, State, content, refers, tag, bang, question, targeting, marked, forming, naming, tagged, spaced, attribute, equals, assigned, valued, value_refers, slashed, ending, ended, in_content, in_reference, in_value_reference, in_marked, in_forming, in_bang, declares, may_open, behind_plain_target, behind_target, behind_slash, opens, closes, at_end, behind_tagged, in_naming, in_attribute, closed, in_ended, behind_ending, step}
use Rattle.doc_grammar.proofs.FormLemmas.{is_formed, StaysFormed, stays_formed, xml_formed, doctype_formed}
use Rattle.doc_grammar.proofs.NumberLemmas.{digit_low}
use Rattle.xt_names.specs.Characters.{is_space, is_char, is_quote, starts_name, is_name_char}

-- some characters
abbrev pub IsSome : List ℕ → Type 0
IsSome [] = ⊥
IsSome (c ∷ cs) = Unit {0}

abbrev pub IsElement : Stack → Type 0
IsElement (ground l kids ds) = ⊥
IsElement (element name o kids st) = Unit {0}

-- letters are left of a name, and a number is no greater than the last character
abbrev pub IsLiveRef : Ref → Type 0
IsLiveRef (spelling left v) = IsSome left
IsLiveRef (number b n) = n ≤ last_char
IsLiveRef r = Unit {0}

abbrev pub IsLiveLex : Lex → Type 0
IsLiveLex (section_open left) = IsSome left
IsLiveLex l = Unit {0}

-- a form is formed, and in an end tag an element is open
abbrev pub IsLive : State → Type 0
IsLive (refers text r st) = IsLiveRef r
IsLive (marked l text st) = IsLiveLex l
IsLive (forming f st) = is_formed f ≡ true
IsLive (value_refers t name quote read r st) = IsLiveRef r
IsLive (ending left st) = IsElement st
IsLive (ended st) = IsElement st
IsLive s = Unit {0}

-- the same of the state that comes next
abbrev pub Lives : Option State → Type 0
Lives None = Unit {0}
Lives (Some s) = IsLive s

either : (b : Bool) (x y : Option State) → (b ≡ true → Lives x) → (b ≡ false → Lives y) → Lives (cond b x y)
either true x y f g = f refl
either false x y f g = g refl

-- references

abbrev pub LivesRef : RefStep → Type 0
LivesRef (lexing.on r) = IsLiveRef r
LivesRef (lexing.stands_for v) = Unit {0}
LivesRef lexing.fails = Unit {0}

either_ref : (b : Bool) (x y : RefStep) → (b ≡ true → LivesRef x) → (b ≡ false → LivesRef y) → LivesRef (cond b x y)
either_ref true x y f g = f refl
either_ref false x y f g = g refl

spelling_lives : (left : List ℕ) (v c : ℕ) → LivesRef (spelling_step left v c)
spelling_lives [] v c = tt
spelling_lives (d ∷ []) v c = either_ref (c == d) _ _ (λ e. tt) (λ e. tt)
spelling_lives (d ∷ f ∷ left) v c = either_ref (c == d) _ _ (λ e. tt) (λ e. tt)

entity_lives : (c : ℕ) → LivesRef (entity_step c)
entity_lives c =
    either_ref (c == 97) _ _ (λ e. tt) (λ e. either_ref (c == 108) _ _ (λ e. tt) (λ e. either_ref (c == 103) _ _ (λ e. tt) (λ e. either_ref (c == 113) _ _ (λ e. tt) (λ e. tt))))

base_low : (b : Base) → base_of b ≤ 16
base_low decimal = omega arith
base_low hexadecimal = omega arith

first_lives : (b : Base) (c : ℕ) (o : Option ℕ) → digit b c ≡ o → LivesRef (first_digit b o)
first_lives b c None e = tt
first_lives b c (Some d) e = let low = digit_low b c d e in let most = base_low b in omega arith

digit_lives : (b : Base) (n : ℕ) (o : Option ℕ) → LivesRef (with_digit b n o)
digit_lives b n None = tt
digit_lives b n (Some d) = either_ref (nat_le (n * base_of b + d) last_char) _ _ (λ e. leb-true _ _ e) (λ e. tt)

ref_lives : (r : Ref) (c : ℕ) → IsLiveRef r → LivesRef (ref_step r c)
ref_lives ampersand c l = either_ref (c == 35) _ _ (λ e. tt) (λ e. entity_lives c)
ref_lives letter_a c l = either_ref (c == 109) _ _ (λ e. tt) (λ e. either_ref (c == 112) _ _ (λ e. tt) (λ e. tt))
ref_lives (spelling left v) c l = spelling_lives left v c
ref_lives hash c l = either_ref (c == 120) _ _ (λ e. tt) (λ e. first_lives decimal c _ refl)
ref_lives hash_x c l = first_lives hexadecimal c _ refl
ref_lives (number b n) c l = either_ref (c == 59) _ _ (λ e. either_ref (is_char n) _ _ (λ p. tt) (λ p. tt)) (λ e. digit_lives b n _)

in_reference_lives : (text : List ℕ) (st : Stack) (o : RefStep) → LivesRef o → Lives (in_reference text st o)
in_reference_lives text st (lexing.on r) l = l
in_reference_lives text st (lexing.stands_for v) l = tt
in_reference_lives text st lexing.fails l = tt

in_value_lives : (t : RawTag) (name : RawName) (quote : ℕ) (read : List ℕ) (st : Stack) (o : RefStep) → LivesRef o → Lives (in_value_reference t name quote read st o)
in_value_lives t name quote read st (lexing.on r) l = l
in_value_lives t name quote read st (lexing.stands_for v) l = tt
in_value_lives t name quote read st lexing.fails l = tt

-- comments, instructions and sections

abbrev pub LivesLex : LexStep → Type 0
LivesLex (lexing.on l) = IsLiveLex l
LivesLex (lexing.makes n) = Unit {0}
LivesLex (lexing.says text) = Unit {0}
LivesLex lexing.fails = Unit {0}

either_lex : (b : Bool) (x y : LexStep) → LivesLex x → LivesLex y → LivesLex (cond b x y)
either_lex true x y f g = f
either_lex false x y f g = g

char_lives : (c : ℕ) (l : Lex) → IsLiveLex l → LivesLex (on_char c l)
char_lives c l h = either_lex (is_char c) _ _ h tt

open_lives : (left : List ℕ) (c : ℕ) → LivesLex (section_open_step left c)
open_lives [] c = tt
open_lives (d ∷ []) c = either_lex (c == d) _ _ tt tt
open_lives (d ∷ e ∷ left) c = either_lex (c == d) _ _ tt tt

instruction_lives : (target read : List ℕ) (c : ℕ) → LivesLex (instruction_step target read c)
instruction_lives target read c = either_lex (c == 63) _ _ tt (char_lives c (instruction target (read ++ c ∷ [])) tt)

lex_lives : (l : Lex) (c : ℕ) → LivesLex (lex_step l c)
lex_lives dash c = either_lex (c == 45) _ _ tt tt
lex_lives (comment read) c = either_lex (c == 45) _ _ tt (char_lives c (comment (read ++ c ∷ [])) tt)
lex_lives (comment_dash read) c = either_lex (c == 45) _ _ tt (char_lives c (comment (read ++ 45 ∷ c ∷ [])) tt)
lex_lives (comment_dashes read) c = either_lex (c == 62) _ _ tt tt
lex_lives (section_open left) c = open_lives left c
lex_lives (section read) c = either_lex (c == 93) _ _ tt (char_lives c (section (read ++ c ∷ [])) tt)
lex_lives (section_bracket read) c = either_lex (c == 93) _ _ tt (char_lives c (section (read ++ 93 ∷ c ∷ [])) tt)
lex_lives (section_brackets read) c = either_lex (c == 62) _ _ tt (either_lex (c == 93) _ _ tt (char_lives c (section (read ++ 93 ∷ 93 ∷ c ∷ [])) tt))
lex_lives (target_mark target) c = either_lex (c == 62) _ _ tt tt
lex_lives (target_space target) c = either_lex (is_space c) _ _ tt (instruction_lives target [] c)
lex_lives (instruction target read) c = instruction_lives target read c
lex_lives (instruction_mark target read) c = either_lex (c == 62) _ _ tt (either_lex (c == 63) _ _ tt (char_lives c (instruction target (read ++ 63 ∷ c ∷ [])) tt))

in_marked_lives : (text : List ℕ) (st : Stack) (o : LexStep) → LivesLex o → Lives (in_marked text st o)
in_marked_lives text st (lexing.on r) l = l
in_marked_lives text st (lexing.makes n) l = tt
in_marked_lives text st (lexing.says more) l = tt
in_marked_lives text st lexing.fails l = tt

-- forms

in_forming_lives : (st : Stack) (o : FormStep) → StaysFormed o → Lives (in_forming st o)
in_forming_lives st (form.goes f) l = l
in_forming_lives st form.done l = tt
in_forming_lives st form.fails l = tt

-- content and markup

in_content_lives : (n : ℕ) (text : List ℕ) (st : Stack) (c : ℕ) → Lives (in_content n text st c)
in_content_lives n text (ground l kids ds) c = either (is_space c) _ _ (λ e. tt) (λ e. tt)
in_content_lives n text (element name o kids st) c = either (c == 38) _ _ (λ e. tt) (λ e. either (may_stand n c) _ _ (λ e. tt) (λ e. tt))

slash_lives : (text : List ℕ) (st : Stack) → Lives (behind_slash text st)
slash_lives text (ground l kids ds) = tt
slash_lives text (element name o kids st) = tt

bang_lives : (text : List ℕ) (st : Stack) (c : ℕ) → Lives (in_bang text st c)
bang_lives text (ground l kids ds) c = either (may_type l) _ _ (λ e. in_forming_lives (ground typed kids ds) _ (stays_formed doctype_declaration c doctype_formed)) (λ e. tt)
bang_lives text (element name o kids st) c = either (c == 91) _ _ (λ e. tt) (λ e. tt)

plain_lives : (target text : List ℕ) (st : Stack) (c : ℕ) → Lives (behind_plain_target target text st c)
plain_lives target text st c = either (is_target target) _ _ (λ i. either (is_space c) _ _ (λ s. tt) (λ s. either (c == 63) _ _ (λ e. tt) (λ e. tt))) (λ i. tt)

target_lives : (target text : List ℕ) (st : Stack) (c : ℕ) → Lives (behind_target target text st c)
target_lives target text st c = either (declares st target) _ _ (λ d. in_forming_lives _ _ (stays_formed xml_declaration c xml_formed)) (λ d. plain_lives target text st c)

-- tags

opens_lives : (t : RawTag) (st : Stack) (o : Option Opened) → Lives (opens t st o)
opens_lives t st None = tt
opens_lives t st (Some o) = tt

closes_lives : (t : RawTag) (st : Stack) (o : Option Opened) → Lives (closes t st o)
closes_lives t st None = tt
closes_lives t st (Some o) = tt

end_lives : (rules : Rules) (t : RawTag) (st : Stack) (c : ℕ) → Lives (at_end rules t st c)
end_lives rules t st c = either (c == 62) _ _ (λ e. opens_lives t st _) (λ e. either (c == 47) _ _ (λ e. tt) (λ e. tt))

tagged_lives : (rules : Rules) (t : RawTag) (st : Stack) (c : ℕ) → Lives (behind_tagged rules t st c)
tagged_lives rules t st c = either (is_space c) _ _ (λ e. tt) (λ e. end_lives rules t st c)

naming_lives : (rules : Rules) (st : Stack) (c : ℕ) (o : NameStep) → Lives (in_naming rules st c o)
naming_lives rules st c (on n) = tt
naming_lives rules st c (behind_name name) = tagged_lives rules (tag_named name) st c
naming_lives rules st c fails = tt

attribute_lives : (t : RawTag) (st : Stack) (c : ℕ) (o : NameStep) → Lives (in_attribute t st c o)
attribute_lives t st c (on n) = tt
attribute_lives t st c (behind_name name) = either (c == 61) _ _ (λ e. tt) (λ e. either (is_space c) _ _ (λ e. tt) (λ e. tt))
attribute_lives t st c fails = tt

closed_lives : (st : Stack) → Lives (closed st)
closed_lives (ground l kids ds) = tt
closed_lives (element name o kids st) = tt

ended_lives : (st : Stack) (c : ℕ) → IsElement st → Lives (in_ended st c)
ended_lives st c l = either (c == 62) _ _ (λ e. closed_lives st) (λ e. either (is_space c) _ _ (λ s. l) (λ s. tt))

ending_lives : (left : List ℕ) (st : Stack) (c : ℕ) → IsElement st → Lives (behind_ending left st c)
ending_lives [] st c l = ended_lives st c l
ending_lives (d ∷ left) st c l = either (c == d) _ _ (λ e. l) (λ e. tt)

pub lives : (rules : Rules) (s : State) (c : ℕ) → IsLive s → Lives (step rules s c)
unfolding step
lives rules (content n text st) c l = either (c == 60) _ _ (λ e. tt) (λ e. in_content_lives n text st c)
lives rules (refers text r st) c l = in_reference_lives text st (ref_step r c) (ref_lives r c l)
lives rules (tag text st) c l =
    either (c == 47) _ _ (λ e. slash_lives text st) (λ e. either (c == 33) _ _ (λ e. tt) (λ e. either (c == 63) _ _ (λ e. tt) (λ e. either (starts_name c) _ _ (λ n. either (may_open st) _ _ (λ m. tt) (λ m. tt)) (λ n. tt))))
lives rules (bang text st) c l = either (c == 45) _ _ (λ e. tt) (λ e. bang_lives text st c)
lives rules (question text st) c l = either (starts_name c) _ _ (λ e. tt) (λ e. tt)
lives rules (targeting read text st) c l = either (is_name_char c) _ _ (λ e. tt) (λ e. target_lives read text st c)
lives rules (marked x text st) c l = in_marked_lives text st (lex_step x c) (lex_lives x c)
lives rules (forming f st) c l = in_forming_lives st (form_step f c) (stays_formed f c l)
lives rules (naming n st) c l = naming_lives rules st c (name_step n c)
lives rules (tagged t st) c l = tagged_lives rules t st c
lives rules (spaced t st) c l = either (is_space c) _ _ (λ e. tt) (λ e. either (starts_name c) _ _ (λ n. tt) (λ n. end_lives rules t st c))
lives rules (attribute t n st) c l = attribute_lives t st c (name_step n c)
lives rules (equals t name st) c l = either (c == 61) _ _ (λ e. tt) (λ e. either (is_space c) _ _ (λ e. tt) (λ e. tt))
lives rules (assigned t name st) c l = either (is_space c) _ _ (λ e. tt) (λ e. either (is_quote c) _ _ (λ e. tt) (λ e. tt))
lives rules (valued t name quote read st) c l = either (c == quote) _ _ (λ e. tt) (λ e. either (c == 38) _ _ (λ e. tt) (λ e. either (is_value quote c) _ _ (λ e. tt) (λ e. tt)))
lives rules (value_refers t name quote read r st) c l = in_value_lives t name quote read st (ref_step r c) (ref_lives r c l)
lives rules (slashed t st) c l = either (c == 62) _ _ (λ e. closes_lives t st _) (λ e. tt)
lives rules (ending left st) c l = ending_lives left st c l
lives rules (ended st) c l = ended_lives st c l
