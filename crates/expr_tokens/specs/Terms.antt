-- What a token of a text is in the grammar (XPath 2.0, A.2).
use Rattle.std.specs.Prelude.{ℕ, List, [], ◌∷◌, Option, Some, None, option_map, option_and_then, codes}
use Rattle.std.specs.Str.{chars}
use Rattle.text_operations.specs.Searches.{text_before, text_after}
use Rattle.xpath_lex.specs.declared.lexing.TokenKind.{TokenKind}
use Rattle.xpath_lex.specs.declared.lexing.TokenKind.TheVariants.{Integer, Literal, Word, QWord, AnyLocal, AnyPrefix, Symbol}
use Rattle.xpath_lex.specs.declared.lexing.Token.{Token as Lexed}
use Rattle.expr_keys.specs.declared.keys.Key.{Key}
use Rattle.expr_keys.specs.declared.tokens.Token.{Token}
use Rattle.expr_keys.specs.declared.tokens.Token.TheVariants.{Key as key, Name as name, Qname as qname, AnyLocal as any_local, AnyPrefix as any_prefix, Digits as digits, Quoted as quoted}
use Rattle.expr_tokens.specs.Words.{key_of_word, key_of_symbol}
use Rattle.expr_tokens.specs.Literals.{number_value, unquoted}

-- the kind and the characters of a token of a text
pub record Written : Type 0 where
  pub kind : TokenKind
  pub characters : List ℕ

abbrev pub written : Lexed → Written
written t = record { kind = t.kind; characters = chars t.text.now }

abbrev pub number_term : List ℕ → Option Token
number_term cs = option_map digits (number_value cs)

abbrev pub literal_term : List ℕ → Token
literal_term cs = quoted (unquoted cs)

abbrev pub word_or_name : Option Key → List ℕ → Token
word_or_name None cs = name cs
word_or_name (Some k) cs = key k

abbrev pub word_term : List ℕ → Token
word_term cs = word_or_name (key_of_word cs) cs

abbrev pub symbol_term : List ℕ → Option Token
symbol_term cs = option_map key (key_of_symbol cs)

abbrev pub qname_parts : Option (List ℕ) → Option (List ℕ) → Option Token
qname_parts (Some p) (Some n) = Some (qname p n)
qname_parts _ _ = None

abbrev pub qname_term : List ℕ → Option Token
qname_term cs = qname_parts (text_before (codes ":") cs) (text_after (codes ":") cs)

abbrev pub any_local_term : List ℕ → Option Token
any_local_term cs = option_map any_local (text_before (codes ":") cs)

abbrev pub any_prefix_term : List ℕ → Option Token
any_prefix_term cs = option_map any_prefix (text_after (codes ":") cs)

abbrev pub term_of : TokenKind → List ℕ → Option Token
term_of Integer cs = number_term cs
term_of Literal cs = Some (literal_term cs)
term_of Word cs = Some (word_term cs)
term_of QWord cs = qname_term cs
term_of AnyLocal cs = any_local_term cs
term_of AnyPrefix cs = any_prefix_term cs
term_of Symbol cs = symbol_term cs

-- .. of all tokens, where each has one
unfoldable pub terms_of : List Written → Option (List Token)
terms_of [] = Some []
terms_of (t ∷ ts) = option_and_then (λ u. option_map (λ us. u ∷ us) (terms_of ts)) (term_of t.kind t.characters)
