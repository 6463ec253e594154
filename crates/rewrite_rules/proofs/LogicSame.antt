-- `and` and `or` without the parts that true() and false() decide mean the same.
use Rattle.std.proofs.Common.{◌≡◌, ℕ, List, [], ◌∷◌, refl, sym, ap, ◌∙◌, map}
use Rattle.std.specs.Prelude.{Bool, true, false, not, if◌then◌else◌, Option, Some, None}
use Rattle.std.specs.Bool.{beq}
use Rattle.xt_syntax.specs.declared.exprs.Expr.{Expr}
use Rattle.xt_syntax.specs.declared.exprs.Clause.TheOpen.{And, Or}
use Rattle.xt_syntax.specs.declared.exprs.Clause.TheViews.{roll-Expr}
use Rattle.expr_meaning.specs.Outcomes.Outcome.{Outcome, Ends, and_then}
use Rattle.expr_meaning.specs.Env.{Env, Program}
use Rattle.expr_meaning.specs.Meaning.{outcome}
use Rattle.expr_meaning.specs.Logic.{truth_at, unless, first_of, as_items}
use Rattle.expr_laws.proofs.Rolled.{rolled}
use Rattle.rewrite_rules.specs.Known.{fixed_truth}
use Rattle.rewrite_rules.specs.Law.{Same}
use Rattle.rewrite_rules.specs.Logic.{kept_part, kept_parts, connected, joined}
use Rattle.rewrite_rules.proofs.KnownMeans.{constant_means, boolean_means}
use Rattle.rewrite_rules.proofs.Outcomes.{next_same, next_ends, TruthAs, fixed_means, boolean_items}

module _ (p : Program) (decisive : Bool) where
  abbrev pub decided : List Expr → Env → ℕ → Outcome Bool
  decided es env k = first_of decisive (map (outcome p) es) env k

  rest_same : (t : Bool) (a b : ℕ → Outcome Bool) → ((k : ℕ) → a k ≡ b k) → (k : ℕ) →
      unless decisive a t k ≡ unless decisive b t k
  rest_same t a b h k = by (beq t decisive)
    where
      by : (c : Bool) → (if c then Ends t k else a k) ≡ (if c then Ends t k else b k)
      by true = refl
      by false = h k

  part_kept : (e : Expr) (t : Option Bool) → TruthAs p e t → (kept es : List Expr) →
      ((env : Env) (k : ℕ) → decided kept env k ≡ decided es env k) → (env : Env) (k : ℕ) →
      decided (kept_part decisive t e kept) env k ≡ decided (e ∷ es) env k
  part_kept e None h kept es same env k =
      next_same (truth_at (outcome p e) env k) _ _ (λ t j.
      rest_same t (decided kept env) (decided es env) (same env) j)
  part_kept e (Some t) h kept es same env k =
      by (beq t decisive) refl
      ∙ sym (ap (λ o. and_then o (unless decisive (decided es env))) (h env k))
    where
      by : (c : Bool) → beq t decisive ≡ c →
          decided (if c then e ∷ [] else kept) env k
          ≡ (if c then Ends t k else decided es env k)
      by true q =
          ap (λ o. and_then o (unless decisive (decided [] env))) (h env k)
          ∙ ap (λ c. if c then Ends t k else decided [] env k) q
      by false q = same env k

  parts_kept : (es : List Expr) (env : Env) (k : ℕ) →
      decided (kept_parts decisive es) env k ≡ decided es env k
  parts_kept [] env k = refl
  parts_kept (e ∷ es) env k =
      part_kept e (fixed_truth e) (fixed_means p e) (kept_parts decisive es) es (parts_kept es) env k

either_way : (d t : Bool) (k : ℕ) → unless d (λ j. Ends (not d) j) t k ≡ Ends t k
either_way true true k = refl
either_way true false k = refl
either_way false true k = refl
either_way false false k = refl

pub connected_means : (p : Program) (d : Bool) (es : List Expr) (env : Env) (k : ℕ) →
    outcome p (roll-Expr (connected d es)) env k ≡ as_items (decided p d es env k)
connected_means p true es env k = ap (λ m. m env k) (rolled p (Or es))
connected_means p false es env k = ap (λ m. m env k) (rolled p (And es))

joined_means : (p : Program) (d : Bool) (es : List Expr) (env : Env) (k : ℕ) →
    outcome p (joined d es) env k ≡ as_items (decided p d es env k)
joined_means p d [] env k = constant_means p (not d) env k
joined_means p d (e ∷ []) env k =
    boolean_means p e env k ∙ boolean_items (outcome p e env k)
    ∙ ap as_items (sym (next_same (truth_at (outcome p e) env k) _ _ (either_way d)
    ∙ next_ends (truth_at (outcome p e) env k)))
joined_means p d (a ∷ b ∷ more) env k = connected_means p d (a ∷ b ∷ more) env k

pub logic_same : (d : Bool) (es : List Expr) →
    Same (joined d (kept_parts d es)) (roll-Expr (connected d es))
logic_same d es p env k =
    joined_means p d (kept_parts d es) env k
    ∙ ap as_items (parts_kept p d es env k)
    ∙ sym (connected_means p d es env k)
