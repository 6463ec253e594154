-- A list without lists in it, and a list of one part, mean the same.
use Rattle.std.proofs.Common.{◌≡◌, ℕ, List, [], ◌∷◌, refl, sym, ap, ◌∙◌, map}
use Rattle.xt_syntax.specs.declared.exprs.Expr.{Expr}
use Rattle.xt_syntax.specs.declared.exprs.Clause.TheOpen.{Comma}
use Rattle.xt_syntax.specs.declared.exprs.Clause.TheViews.{out-Expr, roll-Expr, roll-out-Expr}
use Rattle.expr_meaning.specs.Outcomes.Outcome.{and_then}
use Rattle.expr_meaning.specs.Env.{Env, Meaning, Program}
use Rattle.expr_meaning.specs.Meaning.{outcome}
use Rattle.expr_meaning.specs.Values.{comma_of}
use Rattle.expr_laws.proofs.Rolled.{rolled}
use Rattle.rewrite_rules.specs.Forms.{ExprForm}
use Rattle.rewrite_rules.specs.Law.{Same}
use Rattle.rewrite_rules.specs.Lists.{parts_in, flat}
use Rattle.rewrite_rules.proofs.Outcomes.{next_same, then_none, joining, each_append}
use Rattle.std.proofs.lemmas.List.{map-append}

module _ (p : Program) where
  abbrev listed : List Expr → Meaning
  listed es = comma_of (map (outcome p) es)

  pub one_part : (e : Expr) (env : Env) (k : ℕ) → listed (e ∷ []) env k ≡ outcome p e env k
  one_part e env k = then_none (outcome p e env k)

  piece : (e : Expr) (x : ExprForm) → roll-Expr x ≡ e → (env : Env) (k : ℕ) →
      listed (parts_in e x) env k ≡ outcome p e env k
  piece e (Comma all) h env k = ap (λ m. m env k) (sym (rolled p (Comma all)) ∙ ap (outcome p) h)
  piece e x h env k = one_part e env k

  flat_same : (es : List Expr) (env : Env) (k : ℕ) → listed (flat es) env k ≡ listed es env k
  flat_same [] env k = refl
  flat_same (e ∷ es) env k =
      ap (λ ms. comma_of ms env k) (map-append (outcome p) (parts_in e (out-Expr e)) (flat es))
      ∙ each_append (λ m. m env) (map (outcome p) (parts_in e (out-Expr e)))
      (map (outcome p) (flat es)) k
      ∙ ap (λ o. and_then o (λ a j. joining a (listed (flat es) env j)))
      (piece e (out-Expr e) (roll-out-Expr e) env k)
      ∙ next_same (outcome p e env k) _ _ (λ a j. ap (joining a) (flat_same es env j))

pub part_same : (e : Expr) → Same e (roll-Expr (Comma (e ∷ [])))
part_same e p env k = sym (one_part p e env k) ∙ sym (ap (λ m. m env k) (rolled p (Comma (e ∷ []))))

pub list_same : (es : List Expr) → Same (roll-Expr (Comma (flat es))) (roll-Expr (Comma es))
list_same es p env k =
    ap (λ m. m env k) (rolled p (Comma (flat es))) ∙ flat_same p es env k
    ∙ sym (ap (λ m. m env k) (rolled p (Comma es)))
