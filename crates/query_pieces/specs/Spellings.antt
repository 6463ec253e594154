-- The tokens of expressions in queries (XQuery 1.0, A.2).
use Rattle.std.specs.Prelude.{◌≡◌, ℕ, List, Bool, true, false, Some}
use Rattle.xpath_lex.specs.declared.lexing.TokenKind.{TokenKind}
use Rattle.xpath_lex.specs.declared.lexing.TokenKind.TheVariants.{Literal}
use Rattle.expr_keys.specs.declared.tokens.Token.{Token}
use Rattle.expr_keys.specs.declared.tokens.Token.TheVariants as token
use Rattle.expr_tokens.specs.Literals.{unquoted}
use Rattle.expr_tokens.specs.Terms.{term_of}
use Rattle.query_pieces.specs.Literals.{Says}

abbrev pub is_literal : TokenKind → Bool
is_literal Literal = true
is_literal _ = false

-- The token of the grammar that a token of a text is. One that is in no production is none, as an
-- integer past 2^63-1 and a literal with a wrong reference.
pub data Spells (kind : TokenKind) (cs : List ℕ) (t : Token) : Type 0 where
  literal : {said : List ℕ} → is_literal kind ≡ true → Says (unquoted cs) said
      → t ≡ token.Quoted said → Spells kind cs t
  others : is_literal kind ≡ false → term_of kind cs ≡ Some t → Spells kind cs t
