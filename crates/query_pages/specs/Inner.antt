-- The front of an element as one within the content of another.
use Rattle.std.specs.Prelude.{List, [], ◌∷◌}
use Rattle.expr_keys.specs.declared.tokens.Token.{Token}
use Rattle.expr_keys.specs.declared.tokens.Token.TheVariants as token

abbrev pub inner : Token → Token
inner (token.StartTagOpen p n) = token.ChildTagOpen p n
inner t = t

-- .. where it is the first of the tokens
abbrev pub with_inner : List Token → List Token
with_inner [] = []
with_inner (t ∷ ts) = inner t ∷ ts
