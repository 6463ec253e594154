-- What it is that tokens are fit before others that are.
use Rattle.std.proofs.Common.{◌≡◌, ℕ, nat_le, List, [], ◌∷◌, Bool, true, false, cond, refl}
use Rattle.std.proofs.Common.{Option, Some, None}
use Rattle.std.proofs.lemmas.Bool.{and_parts, and_from}
use Rattle.expr_keys.specs.declared.keys.Key.TheVariants as key
use Rattle.expr_keys.specs.declared.tokens.Token.{Token}
use Rattle.expr_keys.specs.declared.tokens.Token.TheVariants as token
use Rattle.expr_raws.specs.PathRaws.Forms.{Form, list, said, parenthesized, all_said}
use Rattle.expr_raws.specs.PathRaws.Paths.{with_token}
use Rattle.expr_raws.specs.ElementRaws.Makers.{braced}
use Rattle.token_laws.specs.WrittenTokens.Fit.{is_fit, are_fit}
use Rattle.token_laws.specs.FitTokens.Keeps.{is_kept, are_kept}

abbrev pub Fit : List Token → Type 0
Fit ts = are_fit ts ≡ true

abbrev pub Kept : List Token → Type 0
Kept ts = are_kept ts ≡ true

abbrev pub Fits : (List Token → List Token) → Type 0
Fits tokens = (rest : List Token) → Kept (tokens rest) → (Kept rest → Fit rest)
    → Fit (tokens rest)

-- a token is fit if it is kept
abbrev pub May : Token → Type 0
May t = is_kept t ≡ true → is_fit t ≡ true

pub one_fits : (t : Token) → May t → Fits (λ rest. t ∷ rest)
one_fits t m rest g h =
    let k = and_parts (is_kept t) (are_kept rest) g in
    and_from (is_fit t) (are_fit rest) (m k.0) (h k.1)

pub said_fits : (n : ℕ) (f : Form) → Fits f.tokens → Fits (λ rest. said n f rest)
said_fits n f s = go (nat_le f.place n)
  where
    go : (b : Bool) → Fits (λ rest. cond b (f.tokens rest) (parenthesized f rest))
    go true rest g h = s rest g h
    go false rest g h = s (token.Key key.CloseParen ∷ rest) g h

pub braced_fits : (f : Form) → Fits f.tokens → Fits (λ rest. braced f rest)
braced_fits f s rest g h = said_fits list f s (token.Key key.CloseBrace ∷ rest) g h

abbrev pub AllFit : List Form → Type 0
AllFit [] = Unit {0}
AllFit (f ∷ fs) = Fits f.tokens × AllFit fs

pub all_fit : (n : ℕ) (fs : List Form) → AllFit fs → Fits (λ rest. all_said n fs rest)
all_fit n [] s rest g h = h g
all_fit n (f ∷ []) s rest g h = said_fits n f s.0 rest g h
all_fit n (f ∷ e ∷ fs) s rest g h = said_fits n f s.0
    (token.Key key.Comma ∷ all_said n (e ∷ fs) rest) g (λ a. all_fit n (e ∷ fs) s.1 rest a h)

-- with the token, where there is one
pub found : (o : Option Token) (f : Token → Form) → ((t : Token) → o ≡ Some t → May t)
    → ((t : Token) → May t → (f t).can ≡ true → Fits (f t).tokens)
    → (with_token o f).can ≡ true → Fits (with_token o f).tokens
found None f s w c = absurd (cc)
found (Some t) f s w c = w t (s t refl) c
