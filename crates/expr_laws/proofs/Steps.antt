-- Steps that are carried, whatever the form.
use Rattle.std.proofs.Common.{ℕ}
use Rattle.std.specs.Prelude.{Bool, true, false, if◌then◌else◌, Result, Ok, Err}
use Rattle.xt_names.specs.declared.codes.Code.{Code}
use Rattle.expr_meaning.specs.Outcomes.Outcome.{Outcome, step_outcome, OnEnds}
use Rattle.expr_meaning.specs.Outcomes.Outcome.{Anything}
use Rattle.expr_meaning.proofs.OutcomesLemmas.Relations.{nothing_known, step_carried}
use Rattle.expr_laws.specs.Carrier.{Carrier, OnValue}

pub step_known : {A : Type 0} (P : A → Type 0) (v : Result A Code) → OnValue P v → (k : ℕ) →
    OnEnds P (step_outcome v k)
step_known P (Ok v) h k = h
step_known P (Err code) h k = tt

module _ (c : Carrier) where
  -- the same step on both sides
  pub same_step : {A : Type 0} (P : A → Type 0) (v : Result A Code) → OnValue P v → (k : ℕ) →
      c.rel A P (step_outcome v k) (step_outcome v k)
  same_step P v h k = step_carried c.like c.rel c.carries P v k (step_known P v h k)

  -- .. of which nothing is known
  pub any_step : {A : Type 0} (v : Result A Code) (k : ℕ) →
      c.rel A Anything (step_outcome v k) (step_outcome v k)
  any_step v k =
      step_carried c.like c.rel c.carries Anything v k (nothing_known (step_outcome v k))

  pub by_truth : {A : Type 0} (P : A → Type 0) (b : Bool) (o p q s : Outcome A) →
      c.rel A P o p → c.rel A P q s →
      c.rel A P (if b then o else q) (if b then p else s)
  by_truth P true o p q s h i = h
  by_truth P false o p q s h i = i
