-- Where a reading of a query's text stands (XQuery 1.0, 3.7.1 and A.2).
use Rattle.std.specs.Prelude.{ℕ, List, [], ◌∷◌, Bool, true, false}
use Rattle.expr_keys.specs.declared.keys.Key.{Key}
use Rattle.expr_keys.specs.declared.keys.Key.TheVariants.{
  OpenBrace as open_brace,
  CloseBrace as close_brace,
  Slash as slash,
}
use Rattle.expr_keys.specs.declared.tokens.Token.{Token}
use Rattle.expr_keys.specs.declared.tokens.Token.TheVariants as token
pub use Rattle.query_pieces.specs.declared.contexts.Quote.{Quote}
pub use Rattle.query_pieces.specs.declared.contexts.Quote.TheVariants.{
  Single as single,
  Double as double,
}
pub use Rattle.query_pieces.specs.declared.contexts.Context.{Context}
pub use Rattle.query_pieces.specs.declared.contexts.Context.TheVariants.{
  Enclosed as enclosed,
  Tag as tag,
  Attribute as attribute,
  Content as content,
}
pub use Rattle.query_pieces.specs.declared.contexts.Before.{Before}
pub use Rattle.query_pieces.specs.declared.contexts.Before.TheVariants.{
  Integer as integer,
  Slash as slash_key,
  Other as other,
}
pub use Rattle.query_pieces.specs.declared.contexts.Change.{Change}
pub use Rattle.query_pieces.specs.declared.contexts.Change.TheVariants.{
  Stays as stays,
  Enters as enters,
  Becomes as becomes,
  Leaves as leaves,
}

pub record Point : Type 0 where
  -- what is open, the innermost first; nothing is at the outermost level
  pub contexts : List Context
  -- what was read last
  pub before : Before
  -- the characters that are left
  pub rest : List ℕ

-- before the first token of a text
abbrev pub start : List ℕ → Point
start text = record { contexts = []; before = other; rest = text }

abbrev pub is_enclosed : Context → Bool
is_enclosed enclosed = true
is_enclosed _ = false

-- tokens of expressions stand here
abbrev pub in_expression : List Context → Bool
in_expression [] = true
in_expression (c ∷ cs) = is_enclosed c

abbrev pub outside : List Context → List Context
outside [] = []
outside (c ∷ cs) = cs

abbrev pub changed : Change → List Context → List Context
changed stays cs = cs
changed (enters c) cs = c ∷ cs
changed (becomes c) cs = c ∷ outside cs
changed leaves cs = outside cs

-- braces of expressions are opened and closed
abbrev pub change_of_key : Key → Change
change_of_key open_brace = enters enclosed
change_of_key close_brace = leaves
change_of_key _ = stays

-- what a token of an expression does to what is open
abbrev pub change_of : Token → Change
change_of (token.Key k) = change_of_key k
change_of _ = stays

abbrev pub before_of_key : Key → Before
before_of_key slash = slash_key
before_of_key _ = other

-- what the token tells of the next one
abbrev pub before_of : Token → Before
before_of (token.Key k) = before_of_key k
before_of (token.Digits n) = integer
before_of _ = other

-- after the token, which left so much of the text
abbrev pub moved : Point → Token → Change → List ℕ → Point
moved p t change rest = record {
  contexts = changed change p.contexts;
  before = before_of t;
  rest =
      rest;
}
