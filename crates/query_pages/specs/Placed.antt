-- The tokens on a page, which is filled from its end.
use Rattle.std.specs.Prelude.{List, map, reverse}
use Rattle.expr_keys.specs.declared.tokens.Token.{Token}
use Rattle.query_pages.specs.declared.placed.Placed.{Placed}

abbrev pub tokens_of : List Placed → List Token
tokens_of xs = map (λ x. x.token) (reverse xs)
