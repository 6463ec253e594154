-- A child is its element with another first token.
use Rattle.std.proofs.Common.{◌≡◌, List, [], ◌∷◌, refl, ap}
use Rattle.expr_keys.specs.declared.tokens.Token.{Token}
use Rattle.expr_keys.specs.declared.tokens.Token.TheVariants as token
use Rattle.query_pages.specs.Inner.{inner as page_inner, with_inner}
use Rattle.expr_raws.specs.ElementRaws.Direct.{inner, child_tokens}

inner_same : (t : Token) → page_inner t ≡ inner t
inner_same (token.StartTagOpen p n) = refl
inner_same _ = refl

pub child_same : (ts : List Token) → with_inner ts ≡ child_tokens ts
child_same [] = refl
child_same (t ∷ ts) = ap (λ u. u ∷ ts) (inner_same t)
