-- For each place inside of a reference, a comment, an instruction or a section, which characters complete it.
use Rattle.std.proofs.Common.{◌≡◌, ℕ, List, [], ◌∷◌, true}
use Rattle.xt_tree.specs.declared.trees.Tree.{Tree}
use Rattle.xt_tree.specs.declared.trees.Tree.TheVariants.{Comment, Pi}
use Rattle.doc_grammar.specs.Lexemes.{Spaces, Digits, Reference, UpTo, section_close, instruction_close, CommentText}
use Rattle.doc_grammar.specs.Lexing.{Ref, ampersand, letter_a, spelling, hash, hash_x, number, Lex, dash, comment, comment_dash, comment_dashes, section_open, section, section_bracket, section_brackets, target_mark, target_space, instruction, instruction_mark}
use Rattle.xt_names.specs.Characters.{is_space, is_char, Ends}

-- the letters that are left of a name, which stands for a character
pub data Letters : ℕ → List ℕ → List ℕ → ℕ → List ℕ → Type 0 where
  last_letter : {v d : ℕ} {rest : List ℕ} → Letters v (d ∷ []) (d ∷ rest) v rest
  a_letter : {v u d e : ℕ} {left ts rest : List ℕ} → Letters v (e ∷ left) ts u rest → Letters v (d ∷ e ∷ left) (d ∷ ts) u rest

-- the rest of a reference, and the character that it stands for
abbrev pub RefRest : Ref → List ℕ → ℕ → List ℕ → Type 0
RefRest ampersand ts v rest = Reference ts v rest
RefRest letter_a ts v rest = Reference (97 ∷ ts) v rest
RefRest (spelling left u) ts v rest = Letters u left ts v rest
RefRest hash ts v rest = Reference (35 ∷ ts) v rest
RefRest hash_x ts v rest = Reference (35 ∷ 120 ∷ ts) v rest
RefRest (number b n) ts v rest = Digits b n ts v rest × (is_char v ≡ true)

-- what is made: a node, or more text
pub data Made : Type 0 where
  node : Tree → Made
  said : List ℕ → Made

-- the letters that are left before a section, and the section
pub data Opening : List ℕ → List ℕ → List ℕ → List ℕ → Type 0 where
  last_letter : {d : ℕ} {ts text rest : List ℕ} → UpTo section_close [] ts text rest → Opening (d ∷ []) (d ∷ ts) text rest
  a_letter : {d e : ℕ} {left ts text rest : List ℕ} → Opening (e ∷ left) ts text rest → Opening (d ∷ e ∷ left) (d ∷ ts) text rest

pub data LexRest : Lex → List ℕ → Made → List ℕ → Type 0 where
  in_dash : {ts text rest : List ℕ} → CommentText [] ts text rest → LexRest dash (45 ∷ ts) (node (Comment text)) rest
  in_comment : {read ts text rest : List ℕ} → CommentText read ts text rest → LexRest (comment read) ts (node (Comment text)) rest
  in_comment_dash : {read ts text rest : List ℕ} → CommentText read (45 ∷ ts) text rest → LexRest (comment_dash read) ts (node (Comment text)) rest
  in_comment_dashes : {read ts text rest : List ℕ} → CommentText read (45 ∷ 45 ∷ ts) text rest → LexRest (comment_dashes read) ts (node (Comment text)) rest
  in_section_open : {left ts text rest : List ℕ} → Opening left ts text rest → LexRest (section_open left) ts (said text) rest
  in_section : {read ts text rest : List ℕ} → UpTo section_close read ts text rest → LexRest (section read) ts (said text) rest
  in_section_bracket : {read ts text rest : List ℕ} → UpTo section_close read (93 ∷ ts) text rest → LexRest (section_bracket read) ts (said text) rest
  in_section_brackets : {read ts text rest : List ℕ} → UpTo section_close read (93 ∷ 93 ∷ ts) text rest → LexRest (section_brackets read) ts (said text) rest
  in_target_mark : {target rest : List ℕ} → LexRest (target_mark target) (62 ∷ rest) (node (Pi target [])) rest
  in_target_space : {target ts start text rest : List ℕ} → Spaces ts start → Ends is_space start → UpTo instruction_close [] start text rest → LexRest (target_space target) ts (node (Pi target text)) rest
  in_instruction : {target read ts text rest : List ℕ} → UpTo instruction_close read ts text rest → LexRest (instruction target read) ts (node (Pi target text)) rest
  in_instruction_mark : {target read ts text rest : List ℕ} → UpTo instruction_close read (63 ∷ ts) text rest → LexRest (instruction_mark target read) ts (node (Pi target text)) rest
