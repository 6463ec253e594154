-- Lists of one item.
use Rattle.std.proofs.Common.{◌≡◌, ◌<◌, ◌≤◌, ℕ, List, [], ◌∷◌, length, drop, get_or, map, refl}
use Rattle.std.proofs.Common.{ap, ◌∙◌, arith}
use Rattle.expr_keys.specs.Classes.{tight}
use Rattle.expr_keys.specs.declared.keys.Key.{Key}
use Rattle.expr_keys.specs.declared.tokens.Token.{Token}
use Rattle.expr_keys.specs.declared.productions.Level.{Level}
use Rattle.expr_raws.specs.PathRaws.Forms.{Form, said}
use Rattle.expr_raws.specs.ControlRaws.Operators.{listed, many, tails}

module _ {A : Type 0} (f : A → Form) where
  pub one_listed : (es : List A) (ts : List Token) → 1 ≤ length es → length es < 2
      → ts ≡ (listed (map f es)).tokens ts
  one_listed [] ts o h = absurd (omega arith)
  one_listed (a ∷ []) ts o h = refl
  one_listed (a ∷ b ∷ es) ts o h = absurd (omega arith)

  pub one_of_many : (l : Level) (k : Key) (es : List A) (ts : List Token) → length es < 2
      → ts ≡ (many l k (map f es)).tokens ts
  one_of_many l k [] ts h = refl
  one_of_many l k (a ∷ []) ts h = refl
  one_of_many l k (a ∷ b ∷ es) ts h = absurd (omega arith)

  -- two or more, put part by part
  pub many_made : (l : Level) (k : Key) (es : List A) (x : A) (n : ℕ) (ts mid new : List Token)
      → 2 ≤ length es → x ≡ get_or es 0 x → mid ≡ tails l k (map f (drop 1 es)) ts → n ≡ tight l
      → new ≡ said n (f x) mid → new ≡ (many l k (map f es)).tokens ts
  many_made l k [] x n ts mid new h e m t u = absurd (omega arith)
  many_made l k (a ∷ []) x n ts mid new h e m t u = absurd (omega arith)
  many_made l k (a ∷ b ∷ es) x n ts mid new h e m t u =
      u ∙ (ap (λ (o : ℕ). said o (f x) mid) t ∙ (ap (λ (y : A). said (tight l) (f y) mid) e
      ∙ ap (λ (us : List Token). said (tight l) (f a) us) m))
