-- The tokens of expressions, and the longest one at a place (XPath 2.0, A.2).
use Rattle.std.specs.Prelude.{◌≡◌, ℕ, ◌≤◌, List, [], ◌∷◌, ◌++◌, length, Bool, true, false, ◌==◌}
use Rattle.std.specs.List.{list_all}
use Rattle.xt_names.specs.Classes.{is_ncname_text}
use Rattle.xpath_lex.specs.Classes.{is_digit, is_single, is_double}
use Rattle.xpath_lex.specs.declared.lexing.TokenKind.{TokenKind}
use Rattle.xpath_lex.specs.declared.lexing.TokenKind.TheVariants.{Integer, Literal, Word, QWord, AnyLocal, AnyPrefix, Symbol}
use Rattle.xt_names.specs.Characters.{is_char, starts_name, is_quote}

-- what comes after the opening quote of a literal, its closing quote included: a quote inside is
-- doubled
pub data Quoted (quote : ℕ) : List ℕ → Type 0 where
  closes : Quoted quote (quote ∷ [])
  doubled : {cs : List ℕ} → Quoted quote cs → Quoted quote (quote ∷ quote ∷ cs)
  passes : {c : ℕ} {cs : List ℕ} → is_char c ≡ true → (c == quote) ≡ false → Quoted quote cs
      → Quoted quote (c ∷ cs)

-- the characters are a token of the kind
pub data IsToken : TokenKind → List ℕ → Type 0 where
  -- digits
  integer : {c : ℕ} {cs : List ℕ} → list_all is_digit (c ∷ cs) ≡ true → IsToken Integer (c ∷ cs)
  -- quotes of one kind around what stands inside
  literal : {c : ℕ} {cs : List ℕ} → is_quote c ≡ true → Quoted c cs → IsToken Literal (c ∷ cs)
  -- a name without a colon
  word : {x : List ℕ} → is_ncname_text x ≡ true → IsToken Word x
  -- `p:n`
  qword : (x y : List ℕ) → is_ncname_text x ≡ true → is_ncname_text y ≡ true
      → IsToken QWord (x ++ 58 ∷ y)
  -- `p:*`
  any_local : (x : List ℕ) → is_ncname_text x ≡ true → IsToken AnyLocal (x ++ 58 ∷ 42 ∷ [])
  -- `*:n`
  any_prefix : {x : List ℕ} → is_ncname_text x ≡ true → IsToken AnyPrefix (42 ∷ 58 ∷ x)
  -- a symbol of one character, and one of two
  single : {c : ℕ} → is_single c ≡ true → IsToken Symbol (c ∷ [])
  double : {c d : ℕ} → is_double c d ≡ true → IsToken Symbol (c ∷ d ∷ [])

-- digits, if any, then a point and a digit
pub data Decimal : List ℕ → Type 0 where
  more : {c : ℕ} {ts : List ℕ} → is_digit c ≡ true → Decimal ts → Decimal (c ∷ ts)
  point : {c : ℕ} {ts : List ℕ} → is_digit c ≡ true → Decimal (46 ∷ c ∷ ts)

-- Where no token begins, whatever is there. The truth value says whether a digit stands
-- directly before.
pub data Barred : Bool → List ℕ → Type 0 where
  -- `(:` begins a comment and nothing else
  comment : {behind : Bool} {ts : List ℕ} → Barred behind (40 ∷ 58 ∷ ts)
  -- no name begins directly after a digit
  name : {c : ℕ} {ts : List ℕ} → starts_name c ≡ true → Barred true (c ∷ ts)
  -- numbers with a point are no tokens, and neither are their parts
  decimal : {behind : Bool} {ts : List ℕ} → Decimal ts → Barred behind ts

-- a token may begin here
pub record Begins (behind : Bool) (ts : List ℕ) (kind : TokenKind) (run rest : List ℕ)
    : Type 0 where
  pub allowed : Barred behind ts → ⊥
  pub is_token : IsToken kind run
  pub parts : ts ≡ run ++ rest

-- and none that is longer
pub record Longest (behind : Bool) (ts : List ℕ) (kind : TokenKind) (run rest : List ℕ)
    : Type 0 where
  pub begins : Begins behind ts kind run rest
  pub longest : (other : TokenKind) (more less : List ℕ) → Begins behind ts other more less
      → length more ≤ length run

-- no token begins here
abbrev pub NoneBegins : Bool → List ℕ → Type 0
NoneBegins behind ts = (kind : TokenKind) (run rest : List ℕ) → Begins behind ts kind run rest → ⊥
