-- The forms of the parts of an expression, and what they mean.
use Rattle.std.proofs.Common.{◌≡◌, ℕ, List, [], ◌∷◌, map, true, refl}
use Rattle.std.proofs.Common.{ap, ap₂}
use Rattle.std.proofs.lemmas.Bool.{and_parts}
use Rattle.xt_syntax.specs.declared.exprs.Expr.{Expr}
use Rattle.expr_keys.specs.declared.keys.Key.{Key}
use Rattle.expr_keys.specs.declared.productions.Level.{Level}
use Rattle.expr_rules.specs.declared.expr_meant.meant.Meant.TheVariants as meant
use Rattle.expr_rules.specs.ExprMeant.Parts.{expr_of, exprs_of}
use Rattle.expr_resolve.specs.declared.setting.Setting.{Setting}
use Rattle.expr_resolve.specs.Folds.{value_of}
use Rattle.expr_raws.specs.PathRaws.Forms.{Form, all_at, all_can}
use Rattle.expr_raws.proofs.PathRaws.Values.{at_means}
use Rattle.expr_raws.specs.ControlRaws.Operators.{tail}
use Rattle.expr_raws.proofs.ControlRaws.Chains.{Plain, tail_means}
use Rattle.expr_raws.specs.Raws.{form_of}

module _ (s : Setting) where
  abbrev pub Means : Form → Expr → Type 0
  Means f e = f.can ≡ true → value_of s f.raw ≡ meant.Expr e

  abbrev pub P : Expr → Type 0
  P e = Means (form_of s.prefixes e) e

  abbrev pub bare : List ((e : Expr) × P e) → List Expr
  bare ys = map (λ y. y.0) ys

  abbrev pub their : List ((e : Expr) × P e) → List Form
  their ys = map (form_of s.prefixes) (bare ys)

  pub all_mean : (n : ℕ) (ys : List ((e : Expr) × P e)) → all_can (their ys) ≡ true
      → exprs_of (map (value_of s) (all_at n (their ys))) ≡ bare ys
  unfolding expr_of
  all_mean n [] c = refl
  all_mean n (y ∷ ys) c =
      let h = and_parts (form_of s.prefixes y.0).can (all_can (their ys)) c in
      ap₂ (λ e es. e ∷ es) (ap expr_of (at_means s n (form_of s.prefixes y.0) y.0 (y.1 h.0)))
      (all_mean n ys h.1)

  pub all_tails : (l : Level) → Plain s l → (k : Key) (ys : List ((e : Expr) × P e))
      → all_can (their ys) ≡ true
      → exprs_of (map (value_of s) (map (λ f. tail l k f) (their ys))) ≡ bare ys
  unfolding expr_of
  all_tails l plain k [] c = refl
  all_tails l plain k (y ∷ ys) c =
      let h = and_parts (form_of s.prefixes y.0).can (all_can (their ys)) c in
      ap₂ (λ e es. e ∷ es) (ap expr_of (tail_means s l plain k (form_of s.prefixes y.0) y.0 (y.1
      h.0)))
      (all_tails l plain k ys h.1)
