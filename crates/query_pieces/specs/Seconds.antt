-- What a token of a text tells of the word before it.
use Rattle.std.specs.Prelude.{ℕ, List, Bool, true, false, Option, Some, None}
use Rattle.xpath_lex.specs.declared.lexing.TokenKind.{TokenKind}
use Rattle.xpath_lex.specs.declared.lexing.TokenKind.TheVariants.{Word, QWord, Symbol}
use Rattle.expr_keys.specs.Keys.{is_worded}
use Rattle.expr_terms.specs.Choices.{second_key}
use Rattle.expr_keys.specs.declared.keys.Key.{Key}
use Rattle.expr_terms.specs.declared.choices.Second.{Second}
use Rattle.expr_terms.specs.declared.choices.Second.TheVariants.{
  Alone as alone,
  BeforeBrace as before_brace,
}
use Rattle.expr_tokens.specs.Words.{key_of_word, key_of_symbol}

-- the key that a token is, if it is one
abbrev pub key_of : TokenKind → List ℕ → Option Key
key_of Word cs = key_of_word cs
key_of Symbol cs = key_of_symbol cs
key_of _ cs = None

-- a word that is no key is a name, and so is a key that is a word
abbrev pub worded : Bool → Option Key → Bool
worded other None = other
worded other (Some k) = is_worded k

-- the token is a name
abbrev pub is_name : TokenKind → List ℕ → Bool
is_name Word cs = worded true (key_of_word cs)
is_name QWord cs = true
is_name Symbol cs = worded false (key_of_symbol cs)
is_name _ cs = false

abbrev pub second_by : Option Key → Second
second_by None = alone
second_by (Some k) = second_key k

abbrev pub is_brace : Second → Bool
is_brace before_brace = true
is_brace _ = false
