-- Tokens with a prefix, where there is one and the class has the token.
use Rattle.std.specs.Prelude.{ℕ, List, Option, Some, None, if◌then◌else◌}
use Rattle.expr_keys.specs.Classes.{fits}
use Rattle.expr_keys.specs.declared.productions.Class.{Class}
use Rattle.expr_keys.specs.declared.tokens.Token.{Token}
use Rattle.expr_keys.specs.declared.tokens.Token.TheVariants as token

-- made with the prefix
abbrev pub made_with : Class → (List ℕ → Token) → Option (List ℕ) → Option Token
made_with c make None = None
made_with c make (Some p) = if fits c (make p) then Some (make p) else None

-- p:n
abbrev pub qualified_with : Class → List ℕ → Option (List ℕ) → Option Token
qualified_with c local found = made_with c (λ p. token.Qname p local) found

-- p:*
abbrev pub any_local_with : Class → Option (List ℕ) → Option Token
any_local_with c found = made_with c (λ p. token.AnyLocal p) found
