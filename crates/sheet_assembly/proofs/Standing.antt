-- Whether a template stands is whether it has a number.
use Rattle.std.proofs.Common.{◌≡◌, ℕ, List, [], ◌∷◌, ◌||◌, if◌then◌else◌, Bool, true, false, Some, None, refl, ap}
use Rattle.std.proofs.lemmas.Option.{none-some, same_Some}
use Rattle.xt_names.specs.declared.names.ExprName.{ExprName}
use Rattle.xt_syntax.specs.declared.exprs.Expr.{Expr}
use Rattle.xt_syntax.specs.declared.patterns.Pattern.{Pattern}
use Rattle.sheet_modules.specs.declared.modules.Part.{Part}
use Rattle.sheet_modules.specs.declared.modules.Part.TheVariants as part
use Rattle.sheet_assembly.specs.Templates.{standing_in, standing_number, number_in, name_if}
use Rattle.sheet_assembly.specs.declared.templates.Standing.{Standing}

abbrev one : Bool → ℕ → Part Expr Pattern → ℕ → List Standing
one counts level p n = record { level = level; number = n; counts = counts; part = p } ∷ []

stands_if : (b counts : Bool) (level : ℕ) (p : Part Expr Pattern) (m n : ℕ)
    → (if b then Some m else None) ≡ Some n
    → (if b then one counts level p m else []) ≡ one counts level p n
stands_if true counts level p m n e = ap (one counts level p) (same_Some m n e)
stands_if false counts level p m n e = absurd (none-some n e)

falls_if : (b : Bool) (m : ℕ) (ts : List Standing) → (if b then Some m else None) ≡ None
    → (if b then ts else []) ≡ []
falls_if true m ts e = absurd (cc)
falls_if false m ts e = refl

module _ (called : List ExprName) (counts : Bool) (level n : ℕ) where
  pub stands : (p : Part Expr Pattern) → standing_number called counts p ≡ Some n
      → standing_in called counts level p ≡ one counts level p n
  stands (part.Template t rules) e =
      stands_if (counts || t.has_match) counts level (part.Template t rules)
      (number_in called (name_if counts t.name)) n e
  stands (part.Global g) e = absurd (none-some n e)
  stands (part.Function f) e = absurd (none-some n e)
  stands (part.Key keys) e = absurd (none-some n e)
  stands (part.Space rules) e = absurd (none-some n e)
  stands (part.Output omit) e = absurd (none-some n e)
  stands part.Ignored e = absurd (none-some n e)
  stands part.Linked e = absurd (none-some n e)

  pub falls : (p : Part Expr Pattern) → standing_number called counts p ≡ None
      → standing_in called counts level p ≡ []
  falls (part.Template t rules) e =
      let number : ℕ = number_in called (name_if counts t.name) in
      falls_if (counts || t.has_match) number (one counts level (part.Template t rules) number) e
  falls (part.Global g) e = refl
  falls (part.Function f) e = refl
  falls (part.Key keys) e = refl
  falls (part.Space rules) e = refl
  falls (part.Output omit) e = refl
  falls part.Ignored e = refl
  falls part.Linked e = refl
