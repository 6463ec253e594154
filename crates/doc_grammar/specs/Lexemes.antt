-- The parts of a document without structure, by the productions of XML 1.0: relations from a text to what it stands for and the rest.
use Rattle.std.specs.Prelude.{◌≡◌, ℕ, ◌+◌, ◌*◌, List, [], ◌∷◌, ◌++◌, Bool, true, false, not, ◌&&◌, ◌==◌, Some}
use Rattle.xt_tree.specs.declared.trees.Tree.{Tree}
use Rattle.xt_tree.specs.declared.trees.Tree.TheVariants.{Comment, Pi}
use Rattle.xt_tree.specs.Sound.{is_xml_in_any_case}
use Rattle.doc_grammar.specs.Characters.{Base, decimal, hexadecimal, base_of, digit}
use Rattle.xt_names.specs.Characters.{Ends, is_space, is_char, starts_name, is_name_char}

-- S?
pub data Spaces : List ℕ → List ℕ → Type 0 where
  no_space : {ts : List ℕ} → Spaces ts ts
  a_space : {c : ℕ} {ts rest : List ℕ} → is_space c ≡ true → Spaces ts rest → Spaces (c ∷ ts) rest

-- The rest of an NCName, whose characters so far are `read`.
pub data Named : List ℕ → List ℕ → List ℕ → List ℕ → Type 0 where
  more : {c : ℕ} {read ts name rest : List ℕ} → is_name_char c ≡ true → Named (read ++ c ∷ []) ts name rest → Named read (c ∷ ts) name rest
  whole : {name rest : List ℕ} → Ends is_name_char rest → Named name rest name rest

pub data NCName : List ℕ → List ℕ → List ℕ → Type 0 where
  ncname : {c : ℕ} {ts name rest : List ℕ} → starts_name c ≡ true → Named (c ∷ []) ts name rest → NCName (c ∷ ts) name rest

-- [0-9]+ ';' or [0-9a-fA-F]+ ';', whose number so far is known
pub data Digits : Base → ℕ → List ℕ → ℕ → List ℕ → Type 0 where
  more : {b : Base} {c d n m : ℕ} {ts rest : List ℕ} → digit b c ≡ Some d → Digits b (n * base_of b + d) ts m rest → Digits b n (c ∷ ts) m rest
  whole : {b : Base} {n : ℕ} {rest : List ℕ} → Digits b n (59 ∷ rest) n rest

-- Reference ::= EntityRef | CharRef, after `&`: the character that it stands for
pub data Reference : List ℕ → ℕ → List ℕ → Type 0 where
  amp : {rest : List ℕ} → Reference (97 ∷ 109 ∷ 112 ∷ 59 ∷ rest) 38 rest
  lt : {rest : List ℕ} → Reference (108 ∷ 116 ∷ 59 ∷ rest) 60 rest
  gt : {rest : List ℕ} → Reference (103 ∷ 116 ∷ 59 ∷ rest) 62 rest
  quot : {rest : List ℕ} → Reference (113 ∷ 117 ∷ 111 ∷ 116 ∷ 59 ∷ rest) 34 rest
  apos : {rest : List ℕ} → Reference (97 ∷ 112 ∷ 111 ∷ 115 ∷ 59 ∷ rest) 39 rest
  by_decimal : {c d n : ℕ} {ts rest : List ℕ} → digit decimal c ≡ Some d → Digits decimal d ts n rest → is_char n ≡ true → Reference (35 ∷ c ∷ ts) n rest
  by_hexadecimal : {c d n : ℕ} {ts rest : List ℕ} → digit hexadecimal c ≡ Some d → Digits hexadecimal d ts n rest → is_char n ≡ true → Reference (35 ∷ 120 ∷ c ∷ ts) n rest

-- the text begins so
abbrev pub begins_with : List ℕ → List ℕ → Bool
begins_with [] ts = true
begins_with (d ∷ ds) [] = false
begins_with (d ∷ ds) (c ∷ ts) = c == d && begins_with ds ts

-- Char* - (Char* close Char*), and what closes it, after the characters so far: up to the first place where that stands
pub data UpTo (close : List ℕ) : List ℕ → List ℕ → List ℕ → List ℕ → Type 0 where
  more : {c : ℕ} {read ts text rest : List ℕ} → is_char c ≡ true → begins_with close (c ∷ ts) ≡ false → UpTo close (read ++ c ∷ []) ts text rest → UpTo close read (c ∷ ts) text rest
  whole : {text ts rest : List ℕ} → ts ≡ close ++ rest → UpTo close text ts text rest

-- `]]>` and `?>`
abbrev pub section_close : List ℕ
section_close = 93 ∷ 93 ∷ 62 ∷ []

abbrev pub instruction_close : List ℕ
instruction_close = 63 ∷ 62 ∷ []

-- ((Char - '-') | ('-' (Char - '-')))* '-->', after the characters so far
pub data CommentText : List ℕ → List ℕ → List ℕ → List ℕ → Type 0 where
  more : {c : ℕ} {read ts text rest : List ℕ} → is_char c ≡ true → (c == 45) ≡ false → CommentText (read ++ c ∷ []) ts text rest → CommentText read (c ∷ ts) text rest
  dash : {c : ℕ} {read ts text rest : List ℕ} → is_char c ≡ true → (c == 45) ≡ false → CommentText (read ++ 45 ∷ c ∷ []) ts text rest → CommentText read (45 ∷ c ∷ ts) text rest
  whole : {text rest : List ℕ} → CommentText text (45 ∷ 45 ∷ 62 ∷ rest) text rest

-- PITarget ::= Name - (('X' | 'x') ('M' | 'm') ('L' | 'l')), without a colon
unfoldable pub is_target : List ℕ → Bool
is_target name = not (is_xml_in_any_case name)

-- PITarget (S (Char* - (Char* '?>' Char*)))? '?>'
pub data Instruction : List ℕ → List ℕ → List ℕ → List ℕ → Type 0 where
  bare : {ts target rest : List ℕ} → NCName ts target (63 ∷ 62 ∷ rest) → is_target target ≡ true → Instruction ts target [] rest
  with_text : {c : ℕ} {ts target mid start text rest : List ℕ} → NCName ts target (c ∷ mid) → is_target target ≡ true → is_space c ≡ true → Spaces mid start → Ends is_space start → UpTo instruction_close [] start text rest → Instruction ts target text rest

-- Comment ::= '<!--' .. '-->'; PI ::= '<?' .. '?>'
pub data Misc : List ℕ → Tree → List ℕ → Type 0 where
  comment : {ts text rest : List ℕ} → CommentText [] ts text rest → Misc (60 ∷ 33 ∷ 45 ∷ 45 ∷ ts) (Comment text) rest
  instruction : {ts target text rest : List ℕ} → Instruction ts target text rest → Misc (60 ∷ 63 ∷ ts) (Pi target text) rest

-- CDSect ::= '<![CDATA[' (Char* - (Char* ']]>' Char*)) ']]>'
pub data Section : List ℕ → List ℕ → List ℕ → Type 0 where
  section : {ts text rest : List ℕ} → UpTo section_close [] ts text rest → Section (60 ∷ 33 ∷ 91 ∷ 67 ∷ 68 ∷ 65 ∷ 84 ∷ 65 ∷ 91 ∷ ts) text rest
