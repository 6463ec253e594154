-- The numbers of parameters tell the names apart that the translation makes of them.
use Rattle.std.specs.Prelude.{◌≡◌, ℕ, suc, List, [], ◌∷◌, true, false}
use Rattle.translated_forms.specs.Params.{same_param, number_in, given_of, flag_of, value_of}
use Rattle.translated_forms.specs.Places.{Param}
use Rattle.xt_names.specs.ExprNames.{same_name}

-- one parameter of the table with its number, and one that is passed
pub record IsApart (params : List Param) (n : ℕ) (p r : Param) : Type 0 where
  pub same : same_param p r ≡ true → given_of (number_in params r) r ≡ given_of n p
  pub other : same_param p r ≡ false →
      same_name (given_of (number_in params r) r) (given_of n p) ≡ false
  pub flag : same_name (given_of (number_in params r) r) (flag_of n p) ≡ false
  pub value : same_name (given_of (number_in params r) r) (value_of n p) ≡ false

-- .. all of the table, numbered from n
abbrev pub AreApart : List Param → ℕ → List Param → Param → Type 0
AreApart params n [] r = Unit {0}
AreApart params n (p ∷ ps) r = IsApart params n p r × AreApart params (suc n) ps r

abbrev pub NumbersTell : List Param → Type 0
NumbersTell params = (r : Param) → AreApart params 1 params r
