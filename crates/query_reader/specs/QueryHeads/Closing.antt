-- Where the parenthesis is that closes what comes before it.
use Rattle.std.specs.Prelude.{◌≡◌, ◌<◌, ◌+◌, ℕ, List, [], length, take, drop, Option, Some, None}
use Rattle.expr_keys.specs.declared.tokens.Token.{Token}
use Rattle.query_grammar.specs.Machine.{inside}

abbrev pub Closes : Option ℕ → List Token → Type 0
Closes None ts = inside 0 [] ts ≡ None
Closes (Some i) ts = (i < length ts) × (inside 0 [] ts ≡ Some (take i ts, drop (i + 1) ts))
