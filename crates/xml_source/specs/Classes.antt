-- The classes of characters that the code takes in runs.
use Rattle.std.specs.Prelude.{ℕ, Bool, not, ◌&&◌, ◌==◌}
use Rattle.doc_grammar.specs.Characters.{is_text, is_value}
use Rattle.xt_names.specs.Characters.{is_space, is_char}

-- text of which no character makes a `]]>`
unfoldable pub is_plain_text : ℕ → Bool
is_plain_text c = is_text c && not (c == 93) && not (c == 62)

unfoldable pub is_bracket : ℕ → Bool
is_bracket c = c == 93

-- what stands for itself in a value between such quotes
unfoldable pub is_plain_value : ℕ → ℕ → Bool
is_plain_value quote c = is_value quote c && not (is_space c && not (c == 32))

-- a character of a comment, a section or an instruction that does not close it
unfoldable pub is_char_but : ℕ → ℕ → Bool
is_char_but d c = is_char c && not (c == d)
