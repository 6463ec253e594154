-- The names of keys in calls of key() (XSLT 2.0, 16.3).
use Rattle.std.specs.Prelude.{ℕ, List, [], ◌∷◌, ◌++◌, Option, Some, None, if◌then◌else◌}
use Rattle.xt_names.specs.Allowed.{is_empty_text}
use Rattle.xt_names.specs.declared.names.Binding.{Binding}
use Rattle.xt_names.specs.declared.names.ExprName.{ExprName}
use Rattle.xt_names.specs.declared.codes.Code.{Code}
use Rattle.expr_names.specs.Names.{undeclared_in, expr_name}
use Rattle.expr_names.specs.declared.written.Written.{Written}
use Rattle.sheet_values.specs.Names.{written_name}

-- a name as one text: its local part, with its uri in braces before it where it has one
unfoldable pub braced : ExprName → List ℕ
braced n = if is_empty_text n.uri then n.local else 123 ∷ (n.uri ++ 125 ∷ n.local)

-- .. unless a rule is broken
unfoldable pub braced_unless : List Code → ExprName → List ℕ
braced_unless [] n = braced n
braced_unless (c ∷ cs) n = []

unfoldable pub written_key : List Binding → Option Written → List ℕ
written_key bound None = []
written_key bound (Some w) = braced_unless (undeclared_in bound w) (expr_name bound [] w)

-- the name that a literal writes where these prefixes are bound, as one text; a name without a prefix
-- has no uri, and a literal that is no QName, or has a prefix that is not declared, names no key: it
-- gives the text of no characters
abbrev pub key_text : List Binding → List ℕ → List ℕ
key_text bound literal = written_key bound (written_name literal)
