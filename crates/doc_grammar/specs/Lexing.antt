-- The reader inside of references, comments, processing instructions and CDATA sections, character by character.
use Rattle.std.specs.Prelude.{ℕ, ◌+◌, ◌*◌, List, [], ◌∷◌, ◌++◌, Option, Some, None, ◌==◌, nat_le, if◌then◌else◌}
use Rattle.xt_tree.specs.declared.trees.Tree.{Tree}
use Rattle.xt_tree.specs.declared.trees.Tree.TheVariants.{Comment, Pi}
use Rattle.doc_grammar.specs.Characters.{Base, decimal, hexadecimal, base_of, digit, last_char}
use Rattle.xt_names.specs.Characters.{is_space, is_char}

-- where the reader is in a reference
pub data Ref : Type 0 where
  -- after `&`
  ampersand : Ref
  -- after `&a`
  letter_a : Ref
  -- before the rest of a name, which stands for this character
  spelling : List ℕ → ℕ → Ref
  -- after `&#`
  hash : Ref
  -- after `&#x`
  hash_x : Ref
  -- after digits, which make this number so far
  number : Base → ℕ → Ref

-- what a character does in a reference: it goes on, it ends it, or it may not stand here
pub data RefStep : Type 0 where
  on : Ref → RefStep
  stands_for : ℕ → RefStep
  fails : RefStep

-- a digit more; past the last character no number makes one
abbrev pub with_digit : Base → ℕ → Option ℕ → RefStep
with_digit b n None = fails
with_digit b n (Some d) = if nat_le (n * base_of b + d) last_char then on (number b (n * base_of b + d)) else fails

abbrev pub first_digit : Base → Option ℕ → RefStep
first_digit b None = fails
first_digit b (Some d) = on (number b d)

abbrev pub entity_step : ℕ → RefStep
entity_step c =
    if c == 97 then on letter_a
    else if c == 108 then on (spelling (116 ∷ 59 ∷ []) 60)
    else if c == 103 then on (spelling (116 ∷ 59 ∷ []) 62)
    else if c == 113 then on (spelling (117 ∷ 111 ∷ 116 ∷ 59 ∷ []) 34) else fails

abbrev pub spelling_step : List ℕ → ℕ → ℕ → RefStep
spelling_step [] v c = fails
spelling_step (d ∷ []) v c = if c == d then stands_for v else fails
spelling_step (d ∷ e ∷ left) v c = if c == d then on (spelling (e ∷ left) v) else fails

abbrev pub ref_step : Ref → ℕ → RefStep
ref_step ampersand c = if c == 35 then on hash else entity_step c
ref_step letter_a c = if c == 109 then on (spelling (112 ∷ 59 ∷ []) 38) else if c == 112 then on (spelling (111 ∷ 115 ∷ 59 ∷ []) 39) else fails
ref_step (spelling left v) c = spelling_step left v c
ref_step hash c = if c == 120 then on hash_x else first_digit decimal (digit decimal c)
ref_step hash_x c = first_digit hexadecimal (digit hexadecimal c)
ref_step (number b n) c = if c == 59 then (if is_char n then stands_for n else fails) else with_digit b n (digit b c)

-- where the reader is in a comment, an instruction after its target, or a section
pub data Lex : Type 0 where
  -- after `<!-`
  dash : Lex
  -- in a comment, after this text, and then a dash or two
  comment : List ℕ → Lex
  comment_dash : List ℕ → Lex
  comment_dashes : List ℕ → Lex
  -- before the rest of `CDATA[`
  section_open : List ℕ → Lex
  -- in a section, after this text, and then a bracket or two
  section : List ℕ → Lex
  section_bracket : List ℕ → Lex
  section_brackets : List ℕ → Lex
  -- after a target and a question mark, or white space
  target_mark : List ℕ → Lex
  target_space : List ℕ → Lex
  -- in an instruction's text, and then after a question mark
  instruction : List ℕ → List ℕ → Lex
  instruction_mark : List ℕ → List ℕ → Lex

-- what a character does there: it goes on, it ends a node or a text, or it may not stand here
pub data LexStep : Type 0 where
  on : Lex → LexStep
  makes : Tree → LexStep
  says : List ℕ → LexStep
  fails : LexStep

abbrev pub on_char : ℕ → Lex → LexStep
on_char c l = if is_char c then on l else fails

abbrev pub instruction_step : List ℕ → List ℕ → ℕ → LexStep
instruction_step target read c = if c == 63 then on (instruction_mark target read) else on_char c (instruction target (read ++ c ∷ []))

abbrev pub section_open_step : List ℕ → ℕ → LexStep
section_open_step [] c = fails
section_open_step (d ∷ []) c = if c == d then on (section []) else fails
section_open_step (d ∷ e ∷ left) c = if c == d then on (section_open (e ∷ left)) else fails

abbrev pub lex_step : Lex → ℕ → LexStep
lex_step dash c = if c == 45 then on (comment []) else fails
lex_step (comment read) c = if c == 45 then on (comment_dash read) else on_char c (comment (read ++ c ∷ []))
lex_step (comment_dash read) c = if c == 45 then on (comment_dashes read) else on_char c (comment (read ++ 45 ∷ c ∷ []))
lex_step (comment_dashes read) c = if c == 62 then makes (Comment read) else fails
lex_step (section_open left) c = section_open_step left c
lex_step (section read) c = if c == 93 then on (section_bracket read) else on_char c (section (read ++ c ∷ []))
lex_step (section_bracket read) c = if c == 93 then on (section_brackets read) else on_char c (section (read ++ 93 ∷ c ∷ []))
lex_step (section_brackets read) c =
    if c == 62 then says read else if c == 93 then on (section_brackets (read ++ 93 ∷ [])) else on_char c (section (read ++ 93 ∷ 93 ∷ c ∷ []))
lex_step (target_mark target) c = if c == 62 then makes (Pi target []) else fails
lex_step (target_space target) c = if is_space c then on (target_space target) else instruction_step target [] c
lex_step (instruction target read) c = instruction_step target read c
lex_step (instruction_mark target read) c =
    if c == 62 then makes (Pi target read) else if c == 63 then on (instruction_mark target (read ++ 63 ∷ [])) else on_char c (instruction target (read ++ 63 ∷ c ∷ []))
