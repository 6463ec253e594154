-- What a text is read as: functions of its characters.
use Rattle.std.specs.Prelude.{ℕ, List, Option, Some, None, option_and_then}
use Rattle.expr_keys.specs.declared.tokens.Token.{Token}
use Rattle.expr_keys.specs.declared.productions.Language.TheVariants.{Xpath as xpath}
use Rattle.expr_tokens.specs.Terms.{terms_of}
use Rattle.expr_grammar.specs.Machine.{read_whole, read_type}
use Rattle.expr_reader.specs.declared.readings.Reading.{Reading}
use Rattle.expr_reader.specs.declared.readings.Reading.TheVariants as read
use Rattle.expr_reader.specs.Answers.{within}
use Rattle.expr_resolve.specs.declared.setting.Setting.{Setting}
use Rattle.expr_tokens.specs.TextTokens.Lexed.{lexed}
use Rattle.xpath_syntax.specs.Readings.{Answer, answer_of}

-- the tokens of the grammar that the text has, where each of its tokens is one
abbrev pub terms_in : List ℕ → Option (List Token)
terms_in text = option_and_then terms_of (lexed text)

abbrev pub read_within : ℕ → Option (List Token) → Reading
read_within k None = read.Nothing
read_within k (Some us) = within k (read_whole xpath us)

abbrev pub type_within : ℕ → Option (List Token) → Reading
type_within k None = read.Nothing
type_within k (Some us) = within k (read_type xpath us)

-- what the text spells as an expression, as it is written
unfoldable pub raw_reading : ℕ → List ℕ → Reading
raw_reading k text = read_within k (terms_in text)

-- .. and as a sequence type
unfoldable pub type_reading : ℕ → List ℕ → Reading
type_reading k text = type_within k (terms_in text)

-- the expression that the text spells, or why it spells none
abbrev pub expr_reading : Setting → ℕ → List ℕ → Answer
expr_reading s k text = answer_of s (raw_reading k text)
