-- Tokens that stand, in order.
use Rattle.std.specs.Prelude.{List, map}
use Rattle.expr_keys.specs.declared.tokens.Token.{Token}
use Rattle.expr_pages.specs.declared.settling.Standing.{Standing}

abbrev pub tokens_in : List Standing → List Token
tokens_in xs = map (λ x. x.token) xs
