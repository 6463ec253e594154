-- Names that the translation makes up: those with a number and those without are different.
use Rattle.std.proofs.Common.{◌≡◌, ℕ, List, ◌++◌, refl, ap, ◌∙◌}
use Rattle.std.proofs.lemmas.List.Folds.{list_any-append}
use Rattle.std.proofs.lemmas.Slice.Eq.{bytes_eq-Decides}
use Rattle.std.specs.Prelude.{Bool, true, false, ◌&&◌, ◌==◌, codes}
use Rattle.std.specs.Prelude.{decimal}
use Rattle.std.specs.List.{list_any}
use Rattle.std.specs.Str.{bytes_eq}
use Rattle.xt_names.specs.declared.names.ExprName.{ExprName}
use Rattle.carried_exprs.specs.Sights.{made_uri, made_name}
use Rattle.translated_forms.specs.Names.{numbered}
use Rattle.std.proofs.Math.Bool.{or-true, and-false}
use Rattle.xt_names.specs.ExprNames.{same_name}

abbrev pub has_hyphen : List ℕ → Bool
has_hyphen t = list_any (λ c. c == 45) t

pub numbered_hyphen : (stem : List ℕ) (n : ℕ) → has_hyphen (numbered stem n) ≡ true
numbered_hyphen stem n =
    list_any-append (λ c. c == 45) stem (codes "-" ++ decimal n) ∙ or-true (has_hyphen stem)

texts_differ : (a b : List ℕ) → has_hyphen a ≡ false → has_hyphen b ≡ true → bytes_eq a b ≡ false
texts_differ a b h g = by (bytes_eq a b) (λ e. (bytes_eq-Decides a b).0 e)
  where
    by : (d : Bool) → (d ≡ true → a ≡ b) → d ≡ false
    by true e = let same : a ≡ b = e refl in cc
    by false e = refl

-- a name that is made up, without a number
abbrev pub IsMadeName : ExprName → Type 0
IsMadeName name = (name.uri ≡ made_uri) × (has_hyphen name.local ≡ false)

pub numbers_differ : (name : ExprName) → IsMadeName name → (stem : List ℕ) (n : ℕ) →
    same_name name (made_name (numbered stem n)) ≡ false
numbers_differ name h stem n =
    ap (λ b. bytes_eq name.uri made_uri && b)
    (texts_differ name.local (numbered stem n) h.1 (numbered_hyphen stem n))
    ∙ and-false (bytes_eq name.uri made_uri)

-- the other way round
pub numbered_differs : (stem : List ℕ) (n : ℕ) (local : List ℕ) → has_hyphen local ≡ false →
    same_name (made_name (numbered stem n)) (made_name local) ≡ false
numbered_differs stem n local h =
    ap (λ b. bytes_eq made_uri made_uri && b)
    (texts_apart (numbered stem n) local (numbered_hyphen stem n) h)
    ∙ and-false (bytes_eq made_uri made_uri)
  where
    texts_apart : (a b : List ℕ) → has_hyphen a ≡ true → has_hyphen b ≡ false → bytes_eq a b ≡ false
    texts_apart a b h g = by (bytes_eq a b) (λ e. (bytes_eq-Decides a b).0 e)
      where
        by : (d : Bool) → (d ≡ true → a ≡ b) → d ≡ false
        by true e = let same : a ≡ b = e refl in cc
        by false e = refl
