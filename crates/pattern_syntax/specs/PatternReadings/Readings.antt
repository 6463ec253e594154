-- What a text is read as: one function of its characters.
use Rattle.std.specs.Prelude.{ℕ, List}
use Rattle.expr_resolve.specs.declared.setting.Setting.{Setting}
use Rattle.expr_tokens.specs.TextTokens.Lexed.{lexed}
use Rattle.pattern_syntax.specs.Readings.{Answer, pattern_reading}

-- the alternatives of the pattern that the text spells, or why it is none
unfoldable pub text_reading : Setting → ℕ → List ℕ → Answer
text_reading s k text = pattern_reading s k (lexed text)
