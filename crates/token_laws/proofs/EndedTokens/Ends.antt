-- What it is that tokens end before those that follow.
use Rattle.std.proofs.Common.{◌≡◌, ℕ, nat_le, List, [], ◌∷◌, ◌++◌, Bool, true, false, cond, refl}
use Rattle.std.proofs.Common.{sym, ◌∙◌, ap, append_assoc, Option, Some, None}
use Rattle.expr_keys.specs.declared.keys.Key.TheVariants as key
use Rattle.expr_keys.specs.declared.tokens.Token.{Token}
use Rattle.expr_keys.specs.declared.tokens.Token.TheVariants as token
use Rattle.expr_raws.specs.PathRaws.Forms.{Form, list, said, parenthesized, all_said}
use Rattle.expr_raws.specs.PathRaws.Paths.{with_token}
use Rattle.expr_raws.specs.ElementRaws.Makers.{braced}

-- what follows comes after them
abbrev pub Ends : (List Token → List Token) → Type 0
Ends tokens = (ts rest : List Token) → tokens (ts ++ rest) ≡ tokens ts ++ rest

abbrev pub is_nothing : List Token → Bool
is_nothing [] = true
is_nothing (t ∷ ts) = false

-- there are some
abbrev pub Fills : (List Token → List Token) → Type 0
Fills tokens = (ts : List Token) → is_nothing (tokens ts) ≡ false

pub record Ended (f : Form) : Type 0 where
  pub ends : Ends f.tokens
  pub fills : Fills f.tokens

-- tokens after others
pub both : (g h : List Token → List Token) → Ends g → Ends h → Ends (λ rest. g (h rest))
both g h a b ts rest = ap g (b ts rest) ∙ a (h ts) rest

-- these tokens
pub these : (us : List Token) → Ends (λ rest. us ++ rest)
these us ts rest = sym (append_assoc us ts rest)

pub said_ends : (n : ℕ) (f : Form) → Ends f.tokens → Ends (λ rest. said n f rest)
said_ends n f a = go (nat_le f.place n)
  where
    go : (b : Bool) → Ends (λ rest. cond b (f.tokens rest) (parenthesized f rest))
    go true ts rest = a ts rest
    go false ts rest = ap (λ x. token.Key key.OpenParen ∷ x)
        (a (token.Key key.CloseParen ∷ ts) rest)

pub said_fills : (n : ℕ) (f : Form) → Fills f.tokens → Fills (λ rest. said n f rest)
said_fills n f a = go (nat_le f.place n)
  where
    go : (b : Bool) → Fills (λ rest. cond b (f.tokens rest) (parenthesized f rest))
    go true ts = a ts
    go false ts = refl

pub braced_ends : (f : Form) → Ends f.tokens → Ends (λ rest. braced f rest)
braced_ends f a ts rest =
    ap (λ x. token.Key key.OpenBrace ∷ x) (said_ends list f a (token.Key key.CloseBrace ∷ ts) rest)

abbrev pub AllEnd : List Form → Type 0
AllEnd [] = Unit {0}
AllEnd (f ∷ fs) = Ended f × AllEnd fs

pub all_end : (n : ℕ) (fs : List Form) → AllEnd fs → Ends (λ rest. all_said n fs rest)
all_end n [] a ts rest = refl
all_end n (f ∷ []) a ts rest = said_ends n f a.0.ends ts rest
all_end n (f ∷ g ∷ fs) a ts rest =
    ap (λ x. said n f (token.Key key.Comma ∷ x)) (all_end n (g ∷ fs) a.1 ts rest)
    ∙ said_ends n f a.0.ends (token.Key key.Comma ∷ all_said n (g ∷ fs) ts) rest

-- with the token, where there is one
pub found : (P : Form → Type 0) (o : Option Token) (f : Token → Form)
    → ((t : Token) → (f t).can ≡ true → P (f t)) → (with_token o f).can ≡ true
    → P (with_token o f)
found P None f w c = absurd (cc)
found P (Some t) f w c = w t c
