-- An expression as a raw value and as the tokens that spell it, and how tightly it binds (XPath
-- 2.0, A.4).
use Rattle.std.specs.Prelude.{ℕ, ◌+◌, nat_le, Bool, false, List, [], ◌∷◌, map, if◌then◌else◌}
use Rattle.std.specs.List.{list_all}
use Rattle.expr_keys.specs.Classes.{tight}
use Rattle.expr_keys.specs.declared.keys.Key.{Key}
use Rattle.expr_keys.specs.declared.keys.Key.TheVariants as key
use Rattle.expr_keys.specs.declared.tokens.Token.{Token}
use Rattle.expr_keys.specs.declared.tokens.Token.TheVariants as token
use Rattle.expr_keys.specs.declared.productions.Level.{Level}
use Rattle.expr_keys.specs.declared.productions.Production.TheVariants as production
use Rattle.expr_terms.specs.declared.raws.Raw.{Raw}
use Rattle.expr_terms.specs.declared.raws.Raw.TheVariants.{Leaf as leaf, Node as node}

-- the raw value, its tokens before those that follow, where it stands without parentheses,
-- whether it ends in a type that would take a mark after it for its own, and whether it can be
-- printed
pub record Form : Type 0 where
  pub raw : Raw
  pub tokens : List Token → List Token
  pub place : ℕ
  pub unmarked : Bool
  pub can : Bool

-- the places: primary expressions, steps, paths, signs, the levels of operators, single
-- expressions, lists
abbrev pub primary : ℕ
primary = 0

abbrev pub step : ℕ
step = 1

abbrev pub path : ℕ
path = 2

abbrev pub signs : ℕ
signs = 3

-- 4 to 15
abbrev pub of_level : Level → ℕ
of_level l = tight l + 1

-- what stands below the level
abbrev pub below : Level → ℕ
below l = tight l

abbrev pub single : ℕ
single = 16

abbrev pub list : ℕ
list = 17

abbrev pub key_leaf : Key → Raw
key_leaf k = leaf (token.Key k)

abbrev pub in_parentheses : Form → Raw
in_parentheses f = node production.Parens (f.raw ∷ [])

abbrev pub parenthesized : Form → List Token → List Token
parenthesized f rest = token.Key key.OpenParen ∷ f.tokens (token.Key key.CloseParen ∷ rest)

-- the raw value where no looser one stands than that: in parentheses where it binds too loosely
abbrev pub at : ℕ → Form → Raw
at n f = if nat_le f.place n then f.raw else in_parentheses f

-- .. and its tokens
abbrev pub said : ℕ → Form → List Token → List Token
said n f rest = if nat_le f.place n then f.tokens rest else parenthesized f rest

-- .. and whether it ends in a type without a mark
abbrev pub ends_unmarked : ℕ → Form → Bool
ends_unmarked n f = if nat_le f.place n then f.unmarked else false

abbrev pub all_at : ℕ → List Form → List Raw
all_at n fs = map (λ f. at n f) fs

-- with commas between them
abbrev pub all_said : ℕ → List Form → List Token → List Token
all_said n [] rest = rest
all_said n (f ∷ []) rest = said n f rest
all_said n (f ∷ g ∷ fs) rest = said n f (token.Key key.Comma ∷ all_said n (g ∷ fs) rest)

abbrev pub all_can : List Form → Bool
all_can fs = list_all (λ f. f.can) fs

-- nothing that can be printed
abbrev pub nothing : Form
nothing = record {
  raw = node production.Context [];
  tokens = λ rest. rest;
  place = primary;
  unmarked = false;
  can = false;
}
