-- Where a character of an expression stands: outside, in a literal, or in comments, which nest
-- (XPath 2.0, 2.6 and A.2.1). `(:` opens a comment and `:)` closes one; no character is of two.
use Rattle.std.specs.Prelude.{ℕ, suc, ◌+◌, ◌-◌, Bool, true, false, ◌||◌, ◌==◌, nat_le}
use Rattle.std.specs.Prelude.{if◌then◌else◌}
use Rattle.sheet_values.specs.declared.within.Within.{Within}
use Rattle.sheet_values.specs.declared.within.Within.TheVariants.{Outside, Parenthesis, Literal}
use Rattle.sheet_values.specs.declared.within.Within.TheVariants.{Comment, CommentParenthesis}
use Rattle.sheet_values.specs.declared.within.Within.TheVariants.{CommentColon}

-- how many comments are open
abbrev pub depth : Within → ℕ
depth Outside = 0
depth Parenthesis = 0
depth (Literal quote) = 0
depth (Comment n) = n
depth (CommentParenthesis n) = n
depth (CommentColon n) = n

-- outside: a quote opens a literal
abbrev pub next_plain : ℕ → Within
next_plain c =
    if c == 34 || c == 39 then Literal c else if c == 40 then Parenthesis else Outside

abbrev pub next_comment : ℕ → ℕ → Within
next_comment n c =
    if c == 40 then CommentParenthesis n else if c == 58 then CommentColon n else Comment n

abbrev pub closed : ℕ → Within
closed n = if nat_le n 1 then Outside else Comment (n - 1)

-- what is open after the character
abbrev pub next_within : Within → ℕ → Within
next_within Outside c = next_plain c
next_within Parenthesis c = if c == 58 then Comment 1 else next_plain c
next_within (Literal quote) c = if c == quote then Outside else Literal quote
next_within (Comment n) c = next_comment n c
next_within (CommentParenthesis n) c = if c == 58 then Comment (n + 1) else next_comment n c
next_within (CommentColon n) c = if c == 41 then closed n else next_comment n c

abbrev pub is_outside : Within → Bool
is_outside Outside = true
is_outside Parenthesis = true
is_outside (Literal quote) = false
is_outside (Comment n) = false
is_outside (CommentParenthesis n) = false
is_outside (CommentColon n) = false
