-- How a text is read as tokens, one after another.
use Rattle.std.specs.Prelude.{◌≡◌, ℕ, ◌+◌, List, [], ◌∷◌, length, Bool, false, encode_utf8_all}
use Rattle.std.specs.Str.{chars}
use Rattle.xpath_lex.specs.Classes.{is_digit}
use Rattle.xpath_lex.specs.Gaps.{Gap, Stops}
use Rattle.xpath_lex.specs.Tokens.{Longest, NoneBegins}
use Rattle.xpath_lex.specs.declared.lexing.TokenKind.{TokenKind}
use Rattle.xpath_lex.specs.declared.lexing.Token.{Token}
use Rattle.xpath_lex.specs.declared.faults.LexFault.{LexFault}
use Rattle.xpath_lex.specs.declared.faults.LexFault.TheVariants.{BadToken, Memory}

-- a token at its place: its kind, its characters, the byte at which it begins and the one after it
pub record Placed : Type 0 where
  pub kind : TokenKind
  pub characters : List ℕ
  pub from : ℕ
  pub to : ℕ

abbrev pub placed : Token → Placed
placed t = record { kind = t.kind; characters = chars t.text.now; from = t.from; to = t.to }

-- how many bytes the characters have
unfoldable pub size : List ℕ → ℕ
size cs = length (encode_utf8_all cs)

-- of a text of so many bytes this is left from the byte on
abbrev pub IsPlace : ℕ → List ℕ → ℕ → Type 0
IsPlace total rest place = place + size rest ≡ total

-- the last character is a digit
abbrev pub ends_in_digit : List ℕ → Bool
ends_in_digit [] = false
ends_in_digit (c ∷ []) = is_digit c
ends_in_digit (c ∷ d ∷ cs) = ends_in_digit (d ∷ cs)

-- In all that follows `total` is how many bytes the whole text has, `ts` are the characters that
-- are left of it, and `behind` says whether a digit stands directly before them.

-- after white space and comments stands this token, which is the longest there, and this is left
-- after it
pub record TokenAt (total : ℕ) (behind : Bool) (ts : List ℕ) (token : Placed) (rest : List ℕ)
    : Type 0 where
  pub after : Bool
  pub here : List ℕ
  pub gap : Gap behind ts after here
  pub stops : Stops here
  pub longest : Longest after here token.kind token.characters rest
  pub from : IsPlace total here token.from
  pub to : IsPlace total rest token.to

-- white space and comments alone are left
abbrev pub IsOver : Bool → List ℕ → Type 0
IsOver behind ts = (after : Bool) × Gap behind ts after []

-- after white space and comments something stands, and no token begins there
pub record FaultAt (total : ℕ) (behind : Bool) (ts : List ℕ) (place : ℕ) : Type 0 where
  pub after : Bool
  pub here : List ℕ
  pub gap : Gap behind ts after here
  pub stops : Stops here
  pub some : here ≡ [] → ⊥
  pub none : NoneBegins after here
  pub at : IsPlace total here place

-- the tokens, to the end of the text
pub data Tokens (total : ℕ) : Bool → List ℕ → List Placed → Type 0 where
  over : {behind : Bool} {ts : List ℕ} → IsOver behind ts → Tokens total behind ts []
  token : {behind : Bool} {ts rest : List ℕ} {t : Placed} {us : List Placed}
      → TokenAt total behind ts t rest → Tokens total (ends_in_digit t.characters) rest us
      → Tokens total behind ts (t ∷ us)

-- tokens up to a place where none begins
pub data Fault (total : ℕ) : Bool → List ℕ → ℕ → Type 0 where
  here : {behind : Bool} {ts : List ℕ} {place : ℕ} → FaultAt total behind ts place
      → Fault total behind ts place
  later : {behind : Bool} {ts rest : List ℕ} {t : Placed} {place : ℕ}
      → TokenAt total behind ts t rest → Fault total (ends_in_digit t.characters) rest place
      → Fault total behind ts place

-- a fact of the place that a fault has
abbrev pub IfBadToken : LexFault → (ℕ → Type 0) → Type 0
IfBadToken (BadToken place) P = P place
IfBadToken (Memory e) P = Unit {0}
