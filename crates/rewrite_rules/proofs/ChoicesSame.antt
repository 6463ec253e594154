-- An `if` without the arms that true() and false() decide means the same.
use Rattle.std.proofs.Common.{◌≡◌, ℕ, List, [], ◌∷◌, ◌++◌, refl, sym, ap, ◌∙◌, map}
use Rattle.std.specs.Prelude.{Bool, true, false, Option, Some, None}
use Rattle.xt_syntax.specs.declared.exprs.Expr.{Expr}
use Rattle.xt_syntax.specs.declared.exprs.Arm.{Arm}
use Rattle.xt_syntax.specs.declared.exprs.Clause.TheOpen.{If}
use Rattle.xt_syntax.specs.declared.exprs.Clause.TheViews.{out-Expr, roll-Expr, roll-out-Expr}
use Rattle.xt_syntax.specs.declared.exprs.Clause.TheViews.{out-Arm, roll-out-Arm}
use Rattle.xt_syntax.specs.Layers.{arm_gives}
use Rattle.expr_meaning.specs.Outcomes.Outcome.{and_then}
use Rattle.expr_meaning.specs.Env.{Env, Meaning, Program}
use Rattle.expr_meaning.specs.Meaning.{meanings, steps, outcome}
use Rattle.expr_meaning.specs.Logic.{truth_at, chosen, either_of, choice_of}
use Rattle.expr_laws.proofs.Rolled.{rolled, rolled_arm}
use Rattle.rewrite_rules.specs.Forms.{ExprForm}
use Rattle.rewrite_rules.specs.Law.{Same}
use Rattle.rewrite_rules.specs.Choices.{arm_truth, kept_arm, kept_arms, last_here, last_part}
use Rattle.rewrite_rules.specs.Choices.{chained, choice}
use Rattle.rewrite_rules.proofs.Outcomes.{next_same, TruthAs, fixed_means}

module _ (p : Program) where
  abbrev pub arm_meaning : Arm → Meaning × Meaning
  arm_meaning = arm_gives meanings (steps p)

  abbrev pub chosen_of : List Arm → Expr → Meaning
  chosen_of arms other = choice_of (map arm_meaning arms) (outcome p other)

  pub arm_value : (a : Arm) →
      arm_meaning a ≡ (outcome p (out-Arm a).test, outcome p (out-Arm a).then)
  arm_value a = ap arm_meaning (sym (roll-out-Arm a)) ∙ rolled_arm p (out-Arm a)

  -- the first arm, by its parts
  pub opened : (a : Arm) (arms : List Arm) (other : Expr) (env : Env) (k : ℕ) →
      chosen_of (a ∷ arms) other env k
      ≡ either_of (outcome p (out-Arm a).test) (outcome p (out-Arm a).then) (chosen_of arms other) env k
  opened a arms other env k =
      ap (λ v. either_of v.0 v.1 (chosen_of arms other) env k) (arm_value a)

  pub chosen_same : (first : Meaning) (m n : Meaning) (env : Env) (t : Bool) (k : ℕ) →
      m env k ≡ n env k → chosen first m env t k ≡ chosen first n env t k
  chosen_same first m n env true k h = refl
  chosen_same first m n env false k h = h

  arm_kept : (a : Arm) (t : Option Bool) → TruthAs p (out-Arm a).test t →
      (kept arms : List Arm) (last other : Expr) →
      ((env : Env) (k : ℕ) → chosen_of kept last env k ≡ chosen_of arms other env k) →
      (env : Env) (k : ℕ) →
      chosen_of (kept_arm t a kept) (last_here t a last) env k ≡ chosen_of (a ∷ arms) other env k
  arm_kept a None h kept arms last other same env k =
      next_same (truth_at (arm_meaning a).0 env k) _ _ (λ t j.
      chosen_same (arm_meaning a).1 (chosen_of kept last) (chosen_of arms other) env t j (same env j))
  arm_kept a (Some true) h kept arms last other same env k =
      sym (opened a arms other env k
      ∙ ap (λ o. and_then o (chosen (outcome p (out-Arm a).then) (chosen_of arms other) env)) (h env k))
  arm_kept a (Some false) h kept arms last other same env k =
      same env k
      ∙ sym (opened a arms other env k
      ∙ ap (λ o. and_then o (chosen (outcome p (out-Arm a).then) (chosen_of arms other) env)) (h env k))

  arms_kept : (arms : List Arm) (other : Expr) (env : Env) (k : ℕ) →
      chosen_of (kept_arms arms) (last_part arms other) env k ≡ chosen_of arms other env k
  arms_kept [] other env k = refl
  arms_kept (a ∷ arms) other env k =
      arm_kept a (arm_truth a) (fixed_means p (out-Arm a).test) (kept_arms arms) arms
      (last_part arms other) other (arms_kept arms other) env k

  -- a chain after a chain
  chain : (arms more : List Arm) (last : Expr) (env : Env) (k : ℕ) →
      chosen_of (arms ++ more) last env k
      ≡ choice_of (map arm_meaning arms) (chosen_of more last) env k
  chain [] more last env k = refl
  chain (a ∷ arms) more last env k =
      next_same (truth_at (arm_meaning a).0 env k) _ _ (λ t j.
      chosen_same (arm_meaning a).1 (chosen_of (arms ++ more) last)
      (choice_of (map arm_meaning arms) (chosen_of more last)) env t j (chain arms more last env j))

  joins : (arms : List Arm) (other : Expr) (x : ExprForm) → roll-Expr x ≡ other →
      (env : Env) (k : ℕ) → outcome p (chained arms other x) env k ≡ chosen_of arms other env k
  joins arms other (If more last) h env k =
      ap (λ m. m env k) (rolled p (If (arms ++ more) last))
      ∙ chain arms more last env k
      ∙ ap (λ m. choice_of (map arm_meaning arms) m env k)
      (sym (rolled p (If more last)) ∙ ap (outcome p) h)
  joins arms other x h env k = ap (λ m. m env k) (rolled p (If arms other))

  pub choice_joins : (arms : List Arm) (other : Expr) (env : Env) (k : ℕ) →
      outcome p (choice arms other) env k ≡ chosen_of arms other env k
  choice_joins [] other env k = refl
  choice_joins (a ∷ arms) other env k =
      joins (a ∷ arms) other (out-Expr other) (roll-out-Expr other) env k

pub choice_same : (arms : List Arm) (other : Expr) →
    Same (choice (kept_arms arms) (last_part arms other)) (roll-Expr (If arms other))
choice_same arms other p env k =
    choice_joins p (kept_arms arms) (last_part arms other) env k
    ∙ arms_kept p arms other env k
    ∙ sym (ap (λ m. m env k) (rolled p (If arms other)))
