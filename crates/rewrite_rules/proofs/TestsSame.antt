-- not() and boolean() where they are not needed mean the same.
use Rattle.std.proofs.Common.{◌≡◌, ℕ, List, [], ◌∷◌, refl, sym, ap, ◌∙◌, map}
use Rattle.std.specs.Prelude.{Bool, Some, codes}
use mathlib.Core.Path.{fun_ext}
use Rattle.xdm_items.specs.declared.items.Item.{Item}
use Rattle.item_functions.specs.OnValues.{not_of}
use Rattle.xt_syntax.specs.declared.exprs.Expr.{Expr}
use Rattle.xt_syntax.specs.declared.exprs.Arm.{Arm}
use Rattle.xt_syntax.specs.declared.exprs.Clause.TheOpen.{If}
use Rattle.xt_syntax.specs.declared.exprs.Clause.TheViews.{roll-Expr}
use Rattle.xt_syntax.specs.declared.exprs.Clause.TheViews.{out-Arm}
use Rattle.expr_meaning.specs.Outcomes.Outcome.{Outcome, and_then, step_outcome}
use Rattle.expr_meaning.specs.Env.{Env, Program, bind_all}
use Rattle.expr_meaning.specs.Meaning.{outcome}
use Rattle.expr_meaning.specs.Logic.{truth_at, unless, chosen, either_of, as_items}
use Rattle.expr_meaning.specs.Flow.{where_clause, kept_tuple}
use Rattle.expr_laws.proofs.Rolled.{rolled, rolled_arm}
use Rattle.rewrite_rules.specs.Known.{Known, constant, negation, emptiness, existence, truth, unknown}
use Rattle.rewrite_rules.specs.Known.{known, call}
use Rattle.rewrite_rules.specs.Law.{Same, OnSome}
use Rattle.rewrite_rules.specs.Logic.{connected}
use Rattle.rewrite_rules.specs.Tests.{turned, negated_test, bare, bare_of, bare_arm}
use Rattle.rewrite_rules.proofs.KnownMeans.{Means, known_means, not_means, empty_means, exists_means}
use Rattle.rewrite_rules.proofs.ChoicesSame.{arm_meaning, chosen_of, opened}
use Rattle.rewrite_rules.proofs.LogicSame.{decided, connected_means}
use Rattle.rewrite_rules.proofs.Outcomes.{not_boolean, not_empty, not_exists, bare_truth}

abbrev negated : Outcome (List Item) → Outcome (List Item)
negated o = and_then o (λ xs j. step_outcome (not_of xs) j)

-- not() of empty() and of exists()
turned_same : (e a : Expr) (d : Known) → ((p : Program) → Means p (negation a) (outcome p e)) →
    ((p : Program) → Means p d (outcome p a)) → OnSome (λ r. Same r e) (turned d)
turned_same e a (emptiness x) n h = λ p env k.
    exists_means p x env k
    ∙ sym (n p env k ∙ ap negated (h p env k) ∙ not_empty (outcome p x env k))
turned_same e a (existence x) n h = λ p env k.
    empty_means p x env k
    ∙ sym (n p env k ∙ ap negated (h p env k) ∙ not_exists (outcome p x env k))
turned_same e a (constant t) n h = tt
turned_same e a (negation x) n h = tt
turned_same e a (truth x) n h = tt
turned_same e a unknown n h = tt

negated_same : (e : Expr) (d : Known) → ((p : Program) → Means p d (outcome p e)) →
    OnSome (λ r. Same r e) (negated_test d)
negated_same e (negation a) h = turned_same e a (known a) h (λ p. known_means p a)
negated_same e (constant t) h = tt
negated_same e (emptiness a) h = tt
negated_same e (existence a) h = tt
negated_same e (truth a) h = tt
negated_same e unknown h = tt

pub negation_same : (e : Expr) → OnSome (λ r. Same r e) (negated_test (known e))
negation_same e = negated_same e (known e) (λ p. known_means p e)

-- boolean() as the argument of not()
bare_not : (p : Program) (a : Expr) (d : Known) → Means p d (outcome p a) → (env : Env) (k : ℕ) →
    negated (outcome p (bare_of a d) env k) ≡ negated (outcome p a env k)
bare_not p a (truth x) h env k = sym (ap negated (h env k) ∙ not_boolean (outcome p x env k))
bare_not p a (constant t) h env k = refl
bare_not p a (negation x) h env k = refl
bare_not p a (emptiness x) h env k = refl
bare_not p a (existence x) h env k = refl
bare_not p a unknown h env k = refl

pub not_same : (e a : Expr) → ((p : Program) → Means p (negation a) (outcome p e)) →
    Same (call (codes "not") (bare a ∷ [])) e
not_same e a h p env k =
    not_means p (bare a) env k
    ∙ bare_not p a (known a) (known_means p a) env k
    ∙ sym (h p env k)

module _ (p : Program) where
  bare_arm_means : (a : Arm) →
      arm_meaning p (bare_arm a) ≡ (outcome p (bare (out-Arm a).test), outcome p (out-Arm a).then)
  bare_arm_means a = rolled_arm p (record { test = bare (out-Arm a).test; then = (out-Arm a).then })

  arms_bare : (arms : List Arm) (other : Expr) (env : Env) (k : ℕ) →
      chosen_of p (map bare_arm arms) other env k ≡ chosen_of p arms other env k
  arms_bare [] other env k = refl
  arms_bare (a ∷ arms) other env k =
      ap (λ v. either_of v.0 v.1 (chosen_of p (map bare_arm arms) other) env k) (bare_arm_means a)
      ∙ ap (λ o. and_then o (chosen (outcome p (out-Arm a).then)
      (chosen_of p (map bare_arm arms) other) env)) (bare_truth p (out-Arm a).test env k)
      ∙ ap (λ m. either_of (outcome p (out-Arm a).test) (outcome p (out-Arm a).then) m env k)
      (fun_ext (λ f. fun_ext (λ j. arms_bare arms other f j)))
      ∙ sym (opened p a arms other env k)

  parts_bare : (d : Bool) (es : List Expr) (env : Env) →
      decided p d (map bare es) env ≡ decided p d es env
  parts_bare d [] env = refl
  parts_bare d (e ∷ es) env = fun_ext (λ k.
      ap (λ o. and_then o (unless d (decided p d (map bare es) env))) (bare_truth p e env k)
      ∙ ap (λ r. and_then (truth_at (outcome p e) env k) (unless d r)) (parts_bare d es env))

  pub where_bare : (e : Expr) → where_clause (Some (outcome p (bare e))) ≡ where_clause (Some (outcome p e))
  where_bare e = fun_ext (λ rest. fun_ext (λ bound. fun_ext (λ env. fun_ext (λ k.
      ap (λ o. and_then o (kept_tuple rest bound env)) (bare_truth p e (bind_all bound env) k)))))

pub choice_bare : (arms : List Arm) (other : Expr) →
    Same (roll-Expr (If (map bare_arm arms) other)) (roll-Expr (If arms other))
choice_bare arms other p env k =
    ap (λ m. m env k) (rolled p (If (map bare_arm arms) other))
    ∙ arms_bare p arms other env k
    ∙ sym (ap (λ m. m env k) (rolled p (If arms other)))

pub parts_same : (d : Bool) (es : List Expr) →
    Same (roll-Expr (connected d (map bare es))) (roll-Expr (connected d es))
parts_same d es p env k =
    connected_means p d (map bare es) env k
    ∙ ap (λ r. as_items (r k)) (parts_bare p d es env)
    ∙ sym (connected_means p d es env k)
