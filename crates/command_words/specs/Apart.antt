-- The words after a command, told apart: what the options say, and the operands. `Says` is the
-- grammar, and `told_apart` the function that has the one answer, which is a law.
use Rattle.std.specs.Prelude.{◌≡◌, ℕ, List, [], ◌∷◌, ◌++◌, map, true, Option, None, Some}
use Rattle.std.specs.Prelude.{option_map, codes, if◌then◌else◌}
use Rattle.std.specs.Str.{bytes_eq}
use Rattle.command_words.specs.Words.{Words, is_operand, behind}
use Rattle.command_words.specs.declared.apart.Told as code
use Rattle.command_words.specs.declared.pieces.Piece as code_piece
use Rattle.command_words.specs.declared.pieces.Piece.TheVariants as code_pieces

-- a part of the words: one or two words
pub data Piece : Type 0 where
  Depth : (number : List ℕ) → Piece
  Doc : (file : List ℕ) → Piece
  Operand : (word : List ℕ) → Piece

-- the values of `--depth` and of `--doc`, and the operands, each in the order of the words
pub record Told : Type 0 where
  pub depths : List (List ℕ)
  pub files : List (List ℕ)
  pub operands : List (List ℕ)

abbrev pub operands_alone : Words → Told
operands_alone words = record { depths = []; files = []; operands = words }

-- with a piece in front
abbrev pub with_piece : Piece → Told → Told
with_piece (Depth number) t =
    record { depths = number ∷ t.depths; files = t.files; operands = t.operands }
with_piece (Doc file) t =
    record { depths = t.depths; files = file ∷ t.files; operands = t.operands }
with_piece (Operand word) t =
    record { depths = t.depths; files = t.files; operands = word ∷ t.operands }

-- What the words say: an option may have its value in the next word, whatever that is, or behind
-- `=`; behind `--` all words are operands.
pub data Says : Words → Told → Type 0 where
  nothing : Says [] (operands_alone [])
  the_rest : (words : Words) → Says (codes "--" ∷ words) (operands_alone words)
  depth : (number : List ℕ) (words : Words) (t : Told) → Says words t
      → Says (codes "--depth" ∷ number ∷ words) (with_piece (Depth number) t)
  depth_joined : (number : List ℕ) (words : Words) (t : Told) → Says words t
      → Says ((codes "--depth=" ++ number) ∷ words) (with_piece (Depth number) t)
  doc : (file : List ℕ) (words : Words) (t : Told) → Says words t
      → Says (codes "--doc" ∷ file ∷ words) (with_piece (Doc file) t)
  doc_joined : (file : List ℕ) (words : Words) (t : Told) → Says words t
      → Says ((codes "--doc=" ++ file) ∷ words) (with_piece (Doc file) t)
  operand : (word : List ℕ) (words : Words) (t : Told) → is_operand word ≡ true → Says words t
      → Says (word ∷ words) (with_piece (Operand word) t)

-- a word that is a piece by itself
abbrev pub joined_piece : Option (List ℕ) → Option (List ℕ) → Option Piece
joined_piece (Some number) file = Some (Depth number)
joined_piece None (Some file) = Some (Doc file)
joined_piece None None = None

abbrev pub whole_piece : List ℕ → Option Piece
whole_piece word =
    if is_operand word then Some (Operand word)
    else joined_piece (behind (codes "--depth=") word) (behind (codes "--doc=") word)

-- an option and its value
abbrev pub parted_piece : List ℕ → List ℕ → Option Piece
parted_piece word value =
    if bytes_eq word (codes "--depth") then Some (Depth value)
    else if bytes_eq word (codes "--doc") then Some (Doc value) else None

-- a piece of one word with what the words after it say, or a piece of two
abbrev pub said : Option Piece → Option Piece → Option Told → Option Told → Option Told
said (Some piece) parted one two = option_map (with_piece piece) one
said None (Some piece) one two = option_map (with_piece piece) two
said None None one two = None

-- what the words say, if anything
abbrev pub told_apart : Words → Option Told
told_apart [] = Some (operands_alone [])
told_apart (word ∷ []) =
    if bytes_eq word (codes "--") then Some (operands_alone [])
    else said (whole_piece word) None (Some (operands_alone [])) None
told_apart (word ∷ value ∷ words) =
    if bytes_eq word (codes "--") then Some (operands_alone (value ∷ words))
    else said (whole_piece word) (parted_piece word value) (told_apart (value ∷ words))
    (told_apart words)

-- what values of the program's types stand for
abbrev pub piece_of : code_piece.Piece → Piece
piece_of (code_pieces.Depth number) = Depth number.now
piece_of (code_pieces.Doc file) = Doc file.now
piece_of (code_pieces.Operand word) = Operand word.now

abbrev pub told_of : code.Told → Told
told_of t = record {
  depths = map (λ b. b.now) t.depths.items;
  files = map (λ b. b.now) t.files.items;
  operands = map (λ b. b.now) t.operands.items;
}

-- with a piece after all others, and with further operands
abbrev pub with_last : Piece → Told → Told
with_last (Depth number) t =
    record { depths = t.depths ++ number ∷ []; files = t.files; operands = t.operands }
with_last (Doc file) t =
    record { depths = t.depths; files = t.files ++ file ∷ []; operands = t.operands }
with_last (Operand word) t =
    record { depths = t.depths; files = t.files; operands = t.operands ++ word ∷ [] }

abbrev pub with_operands : Words → Told → Told
with_operands words t =
    record { depths = t.depths; files = t.files; operands = t.operands ++ words }
