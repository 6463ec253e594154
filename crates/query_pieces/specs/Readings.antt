-- How the text of a query is read as tokens of expressions and pieces of direct elements (XQuery
-- 1.0,
-- 3.7.1 and A.2).
use Rattle.std.specs.Prelude.{◌≡◌, ℕ, List, [], ◌∷◌, Bool, true, false, ◌&&◌, Some, codes}
use Rattle.std.specs.Str.{bytes_eq}
use Rattle.xpath_lex.specs.Readings.{Placed, size, TokenAt, IsOver}
use Rattle.expr_keys.specs.declared.tokens.Token.{Token}
use Rattle.expr_keys.specs.declared.tokens.Token.TheVariants as token
use Rattle.query_pieces.specs.Points.{Context, tag, Before, integer, slash_key, enters, Point}
use Rattle.query_pieces.specs.Points.{in_expression, change_of, moved}
use Rattle.query_pieces.specs.Fronts.{begins, NameAt, name_at}
use Rattle.query_pieces.specs.Spellings.{Spells}
use Rattle.query_pieces.specs.Elements.{Piece, piece_at}
use Rattle.xt_names.specs.Characters.{starts_name}

-- no name begins directly after digits
abbrev pub touches : Before → List ℕ → Bool
touches integer ts = begins starts_name ts
touches _ ts = false

abbrev pub may_open : Bool → Before → Bool
may_open operand slash_key = true
may_open operand _ = operand

-- The token `<` begins a direct element where an operand may stand and a name directly follows.
-- Behind
-- a lone `/` an operand may always stand.
abbrev pub opens : Bool → Before → List ℕ → List ℕ → Bool
opens operand before token rest =
    may_open operand before && (bytes_eq token (codes "<") && begins starts_name rest)

-- after white space and comments this token of expressions comes next, and this is left after it
pub record IsNext (p : Point) (u : Placed) (rest : List ℕ) : Type 0 where
  pub inside : in_expression p.contexts ≡ true
  pub apart : touches p.before p.rest ≡ false
  pub token : TokenAt (size p.rest) false p.rest u rest

-- Where the text is read at the first point, this token or piece may come next, and the second
-- point
-- is after it. The truth value says whether an operand may be there: it tells the operator `<`
-- from the front of a direct element, and nothing else.
pub data Reads (operand : Bool) (p : Point) (t : Token) (behind : Point) : Type 0 where
  -- a token of expressions
  spelled : {u : Placed} {rest : List ℕ} → IsNext p u rest
      → opens operand p.before u.characters rest ≡ false → Spells u.kind u.characters t
      → behind ≡ moved p t (change_of t) rest → Reads operand p t behind
  -- '<' QName
  opened : {u : Placed} {rest : List ℕ} {n : NameAt} → IsNext p u rest
      → opens operand p.before u.characters rest ≡ true → name_at rest ≡ Some n
      → t ≡ token.StartTagOpen n.prefix n.local → behind ≡ moved p t (enters tag) n.rest
      → Reads operand p t behind
  -- a piece of a direct element
  parted : {c : Context} {cs : List Context} {a : Piece} → p.contexts ≡ c ∷ cs
      → piece_at c p.rest ≡ Some a → t ≡ a.token → behind ≡ moved p t a.change a.rest
      → Reads operand p t behind

-- nothing is open, and white space and comments alone are left
pub record IsEnd (p : Point) : Type 0 where
  pub outermost : p.contexts ≡ []
  pub over : IsOver false p.rest

-- the tokens and pieces from the point on, to the end of the text
pub data Splits : Point → List Token → Type 0 where
  over : {p : Point} → IsEnd p → Splits p []
  reads : {operand : Bool} {p behind : Point} {t : Token} {ts : List Token}
      → Reads operand p t behind → Splits behind ts → Splits p (t ∷ ts)
