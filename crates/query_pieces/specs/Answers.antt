-- What the reader of a query's text tells.
use Rattle.std.specs.Prelude.{◌≡◌, Bool}
use Rattle.expr_keys.specs.declared.tokens.Token.{Token}
use Rattle.query_pieces.specs.Points.{Point}
use Rattle.query_pieces.specs.Readings.{Reads, IsEnd}
use Rattle.query_pieces.specs.declared.pieces.Found.{Found}
use Rattle.query_pieces.specs.declared.pieces.Found.TheVariants as found

-- no token and no piece may be read at the point, and the text is not over there
pub record IsStuck (operand : Bool) (p : Point) : Type 0 where
  pub nothing : (t : Token) (q : Point) → Reads operand p t q → ⊥
  pub not_over : IsEnd p → ⊥

-- what is told of the point where the reading stood, and the point where it stands then
abbrev pub Answers : Bool → Point → Found → Point → Type 0
Answers operand p (found.Token t) q = Reads operand p t q
Answers operand p found.End q = IsEnd p
Answers operand p found.Nothing q = IsStuck operand p

-- where nothing is read, the reading stays where it is
abbrev pub Stays : Found → Point → Point → Type 0
Stays (found.Token t) p q = Unit {0}
Stays found.End p q = q ≡ p
Stays found.Nothing p q = q ≡ p
