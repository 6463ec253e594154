-- Literals as tokens.
use Rattle.std.proofs.Common.{◌≡◌, ℕ, List, true, ◌∙◌, refl}
use Rattle.xpath_lex.specs.declared.lexing.TokenKind.{TokenKind}
use Rattle.expr_keys.specs.declared.tokens.Token.TheVariants as token
use Rattle.expr_tokens.specs.Literals.{unquoted}
use Rattle.query_pieces.specs.Literals.{Says}
use Rattle.query_pieces.specs.Spellings.{is_literal, Spells, literal}

pub literal_says : (cs inside text said : List ℕ) → inside ≡ unquoted cs → text ≡ inside
    → Says text said → (kind : TokenKind) → is_literal kind ≡ true
    → Spells kind cs (token.Quoted said)
literal_says cs inside text said e f s kind h = let here : Says (unquoted cs) said = rw (f
    ∙ e) at s in literal h here refl
