-- What operations mean whose operands have ended.
use Rattle.std.proofs.Common.{◌≡◌, ℕ, List, [], ◌∷◌, sym, ap, ◌∙◌}
use Rattle.std.specs.Prelude.{Some}
use Rattle.xdm_items.specs.declared.items.Item.{Item}
use Rattle.xt_syntax.specs.declared.exprs.Expr.{Expr}
use Rattle.xt_syntax.specs.declared.exprs.Clause.TheViews.{out-Expr, roll-Expr, roll-out-Expr}
use Rattle.xt_syntax.specs.declared.exprs.Clause.TheFolds.{fold-roll-Expr}
use Rattle.xt_syntax.specs.declared.exprs.Clause.TheOpen.{General, Value, Is, Before, After}
use Rattle.xt_syntax.specs.declared.exprs.Clause.TheOpen.{Range, Arith, Minus, Plus, Union}
use Rattle.xt_syntax.specs.declared.exprs.Clause.TheOpen.{Intersect, Except, InstanceOf, Treat}
use Rattle.xt_syntax.specs.declared.exprs.Clause.TheOpen.{Castable, Cast}
use Rattle.expr_meaning.specs.Outcomes.Outcome.{and_then, step_outcome}
use Rattle.expr_meaning.specs.Env.{Env, Meaning, Program}
use Rattle.expr_meaning.specs.Meaning.{outcome}
use Rattle.expr_meaning.specs.Values.{unary, binary}
use Rattle.form_values.specs.Forms.{Answer, EndWith, Layer, parts_in, value_in, with_one, with_two}

some_same : (a b : Answer) → Some a ≡ Some b → a ≡ b
some_same a b e = cc

module _ (p : Program) (env : Env) where
  one_gives : (value : List Item → Answer) (a : Expr) (lists : List (List Item)) (answer : Answer)
      (j k : ℕ) → with_one value lists ≡ Some answer → EndWith p env (a ∷ []) lists j k →
      unary value (outcome p a) env j ≡ step_outcome answer k
  one_gives value a (xs ∷ []) answer j k h (i, (m, e)) =
      ap (λ o. and_then o (λ ys n. step_outcome (value ys) n)) m
      ∙ ap (λ n. step_outcome (value xs) n) e
      ∙ ap (λ r. step_outcome r k) (some_same (value xs) answer h)
  one_gives value a [] answer j k h end = absurd cc
  one_gives value a (xs ∷ ys ∷ lists) answer j k h end = absurd cc

  two_give : (value : List Item → List Item → Answer) (a b : Expr) (lists : List (List Item))
      (answer : Answer) (j k : ℕ) → with_two value lists ≡ Some answer →
      EndWith p env (a ∷ b ∷ []) lists j k →
      binary value (outcome p a) (outcome p b) env j ≡ step_outcome answer k
  two_give value a b (xs ∷ ys ∷ []) answer j k h (i, (m, (n, (l, e)))) =
      ap (λ o. and_then o (λ us r. and_then (outcome p b env r) (λ vs s. step_outcome (value us vs) s))) m
      ∙ ap (λ o. and_then o (λ vs s. step_outcome (value xs vs) s)) l
      ∙ ap (λ s. step_outcome (value xs ys) s) e
      ∙ ap (λ r. step_outcome r k) (some_same (value xs ys) answer h)
  two_give value a b [] answer j k h end = absurd cc
  two_give value a b (xs ∷ []) answer j k h end = absurd cc
  two_give value a b (xs ∷ ys ∷ zs ∷ lists) answer j k h end = absurd cc

  rolled : (x : Layer) (lists : List (List Item)) (answer : Answer) (j k : ℕ) →
      value_in x lists ≡ Some answer → EndWith p env (parts_in x) lists j k →
      outcome p (roll-Expr x) env j ≡ step_outcome answer k
  rolled (General op a b) lists answer j k h end =
      ap (λ (m : Meaning). m env j) (fold-roll-Expr _ _ _ _ _ _ _ _ _ _ _ _ _ _ _ _ _ _ (General op a b))
      ∙ two_give _ a b lists answer j k h end
  rolled (Value op a b) lists answer j k h end =
      ap (λ (m : Meaning). m env j) (fold-roll-Expr _ _ _ _ _ _ _ _ _ _ _ _ _ _ _ _ _ _ (Value op a b))
      ∙ two_give _ a b lists answer j k h end
  rolled (Is a b) lists answer j k h end =
      ap (λ (m : Meaning). m env j) (fold-roll-Expr _ _ _ _ _ _ _ _ _ _ _ _ _ _ _ _ _ _ (Is a b))
      ∙ two_give _ a b lists answer j k h end
  rolled (Before a b) lists answer j k h end =
      ap (λ (m : Meaning). m env j) (fold-roll-Expr _ _ _ _ _ _ _ _ _ _ _ _ _ _ _ _ _ _ (Before a b))
      ∙ two_give _ a b lists answer j k h end
  rolled (After a b) lists answer j k h end =
      ap (λ (m : Meaning). m env j) (fold-roll-Expr _ _ _ _ _ _ _ _ _ _ _ _ _ _ _ _ _ _ (After a b))
      ∙ two_give _ a b lists answer j k h end
  rolled (Range a b) lists answer j k h end =
      ap (λ (m : Meaning). m env j) (fold-roll-Expr _ _ _ _ _ _ _ _ _ _ _ _ _ _ _ _ _ _ (Range a b))
      ∙ two_give _ a b lists answer j k h end
  rolled (Arith op a b) lists answer j k h end =
      ap (λ (m : Meaning). m env j) (fold-roll-Expr _ _ _ _ _ _ _ _ _ _ _ _ _ _ _ _ _ _ (Arith op a b))
      ∙ two_give _ a b lists answer j k h end
  rolled (Minus a) lists answer j k h end =
      ap (λ (m : Meaning). m env j) (fold-roll-Expr _ _ _ _ _ _ _ _ _ _ _ _ _ _ _ _ _ _ (Minus a))
      ∙ one_gives _ a lists answer j k h end
  rolled (Plus a) lists answer j k h end =
      ap (λ (m : Meaning). m env j) (fold-roll-Expr _ _ _ _ _ _ _ _ _ _ _ _ _ _ _ _ _ _ (Plus a))
      ∙ one_gives _ a lists answer j k h end
  rolled (Union a b) lists answer j k h end =
      ap (λ (m : Meaning). m env j) (fold-roll-Expr _ _ _ _ _ _ _ _ _ _ _ _ _ _ _ _ _ _ (Union a b))
      ∙ two_give _ a b lists answer j k h end
  rolled (Intersect a b) lists answer j k h end =
      ap (λ (m : Meaning). m env j) (fold-roll-Expr _ _ _ _ _ _ _ _ _ _ _ _ _ _ _ _ _ _ (Intersect a b))
      ∙ two_give _ a b lists answer j k h end
  rolled (Except a b) lists answer j k h end =
      ap (λ (m : Meaning). m env j) (fold-roll-Expr _ _ _ _ _ _ _ _ _ _ _ _ _ _ _ _ _ _ (Except a b))
      ∙ two_give _ a b lists answer j k h end
  rolled (InstanceOf a kind) lists answer j k h end =
      ap (λ (m : Meaning). m env j) (fold-roll-Expr _ _ _ _ _ _ _ _ _ _ _ _ _ _ _ _ _ _ (InstanceOf a kind))
      ∙ one_gives _ a lists answer j k h end
  rolled (Treat a kind) lists answer j k h end =
      ap (λ (m : Meaning). m env j) (fold-roll-Expr _ _ _ _ _ _ _ _ _ _ _ _ _ _ _ _ _ _ (Treat a kind))
      ∙ one_gives _ a lists answer j k h end
  rolled (Castable a kind empty) lists answer j k h end =
      ap (λ (m : Meaning). m env j) (fold-roll-Expr _ _ _ _ _ _ _ _ _ _ _ _ _ _ _ _ _ _ (Castable a kind empty))
      ∙ one_gives _ a lists answer j k h end
  rolled (Cast a kind empty) lists answer j k h end =
      ap (λ (m : Meaning). m env j) (fold-roll-Expr _ _ _ _ _ _ _ _ _ _ _ _ _ _ _ _ _ _ (Cast a kind empty))
      ∙ one_gives _ a lists answer j k h end
  rolled x lists answer j k h end = absurd cc

pub operation_law : (p : Program) (e : Expr) (env : Env) (lists : List (List Item)) (answer : Answer)
    (j k : ℕ) → value_in (out-Expr e) lists ≡ Some answer →
    EndWith p env (parts_in (out-Expr e)) lists j k → outcome p e env j ≡ step_outcome answer k
operation_law p e env lists answer j k h end =
    ap (λ (x : Expr). outcome p x env j) (sym (roll-out-Expr e))
    ∙ rolled p env (out-Expr e) lists answer j k h end
