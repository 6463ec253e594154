-- One token more of a text.
use Rattle.std.specs.Prelude.{ℕ, List, ◌++◌, if◌then◌else◌}
use Rattle.expr_keys.specs.declared.tokens.Token.{Token}
use Rattle.query_pieces.specs.declared.contexts.Context.{Context}
use Rattle.query_pieces.specs.Points.{in_expression}
use Rattle.query_pages.specs.TokenTexts.Spellings.{token_text, piece_text}
use Rattle.query_pages.specs.TokenTexts.Texts.{innermost, behind_token, behind_piece}

-- the token where these contexts are open, with what comes before it in expressions
abbrev pub next_text : List Context → List ℕ → Token → List ℕ
next_text cs g t = if in_expression cs then g ++ token_text t else piece_text (innermost cs) t

-- what is open after it
abbrev pub next_open : List Context → Token → List Context
next_open cs t = if in_expression cs then behind_token cs t else behind_piece cs t
