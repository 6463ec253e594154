-- What is put onto a draft comes before the rest of it.
use Rattle.std.proofs.Common.{◌≡◌, Bool, true, false, List, [], ◌∷◌, ◌++◌, refl, ap, cond}
use Rattle.std.proofs.lemmas.List.{reverse-append}
use Rattle.expr_keys.specs.declared.tokens.Token.{Token}
use Rattle.expr_keys.specs.declared.tokens.Token.TheVariants as token
use Rattle.query_pages.specs.Inner.{inner, with_inner}
use Rattle.expr_drafts.specs.declared.drafts.Item.{Item}
use Rattle.expr_drafts.specs.declared.drafts.Part.{Part}
use Rattle.expr_drafts.specs.Written.{item_tokens, all_tokens, written, said_tokens, part_tokens}

pub pushed : (xs : List Item) (x : Item) → written (xs ++ x ∷ []) ≡ item_tokens x (written xs)
pushed xs x = ap all_tokens (reverse-append xs (x ∷ []))

inner_twice : (t : Token) → inner t ≡ inner (inner t)
inner_twice (token.StartTagOpen p n) = refl
inner_twice _ = refl

with_inner_twice : (ts : List Token) → with_inner ts ≡ with_inner (with_inner ts)
with_inner_twice [] = refl
with_inner_twice (t ∷ ts) = ap (λ u. u ∷ ts) (inner_twice t)

either_inner : (b : Bool) (ts : List Token)
    → with_inner ts ≡ with_inner (cond b (with_inner ts) ts)
either_inner true ts = with_inner_twice ts
either_inner false ts = refl

pub part_inner : (x : Part) (rest : List Token)
    → with_inner (said_tokens x rest) ≡ with_inner (part_tokens x rest)
part_inner x rest = either_inner x.inner (said_tokens x rest)
