-- Which expressions a text spells (XPath 2.0, A).
use Rattle.std.specs.Prelude.{◌≡◌, ℕ, List, Some}
use Rattle.xt_syntax.specs.declared.exprs.Expr.{Expr}
use Rattle.expr_keys.specs.declared.tokens.Token.{Token}
use Rattle.expr_terms.specs.declared.raws.Raw.{Raw}
use Rattle.expr_keys.specs.declared.productions.Language.TheVariants.{Xpath as xpath}
use Rattle.expr_grammar.specs.Grammar.{SpellsType}
use Rattle.expr_tokens.specs.Terms.{Written, terms_of}
use Rattle.expr_resolve.specs.declared.setting.Setting.{Setting}
use Rattle.expr_tokens.specs.TextTokens.Lexed.{lexed}
use Rattle.xpath_syntax.specs.Spelled as tokens

-- the tokens of the text spell the raw value, as an expression
pub record IsRead (text : List ℕ) (raw : Raw) : Type 0 where
  pub written : List Written
  pub are : lexed text ≡ Some written
  pub spelled : tokens.IsWritten written raw

-- .. and as a sequence type
pub record IsTypeRead (text : List ℕ) (raw : Raw) : Type 0 where
  pub written : List Written
  pub are : lexed text ≡ Some written
  pub terms : List Token
  pub so : terms_of written ≡ Some terms
  pub spelled : SpellsType xpath terms raw

-- the tokens of the text spell the expression, and no static rule is broken
pub record Spells (s : Setting) (text : List ℕ) (e : Expr) : Type 0 where
  pub written : List Written
  pub are : lexed text ≡ Some written
  pub spelled : tokens.Spells s written e

-- .. and it nests no deeper
pub record SpellsWithin (s : Setting) (k : ℕ) (text : List ℕ) (e : Expr) : Type 0 where
  pub written : List Written
  pub are : lexed text ≡ Some written
  pub spelled : tokens.SpellsWithin s k written e
