-- What tokens weigh: each one, but `//`, which stands for a step between two slashes, two (XPath
-- 2.0, 3.2).
use Rattle.std.specs.Prelude.{ℕ, ◌+◌, List, [], ◌∷◌, if◌then◌else◌}
use Rattle.expr_keys.specs.Tokens.{fits_key}
use Rattle.expr_keys.specs.declared.keys.Key.TheVariants.{Slashes as slashes}
use Rattle.expr_keys.specs.declared.tokens.Token.{Token}

abbrev pub weigh : Token → ℕ
weigh t = if fits_key slashes t then 2 else 1

abbrev pub weight : List Token → ℕ
weight [] = 0
weight (t ∷ ts) = weigh t + weight ts
