-- Global variables, one after another.
use Rattle.std.proofs.Common.{◌≡◌, ℕ, suc, ◌<◌, List, [], ◌∷◌, ap, sym, ◌∙◌, refl, arith, drop}
use Rattle.std.proofs.Common.{drop-cons, get_or, length}
use Rattle.std.proofs.Math.ListN.{drop_of_length-le}
use Rattle.xdm_items.specs.declared.items.Item.{Item}
use Rattle.xt_syntax.specs.declared.queries.QueryVar.{QueryVar}
use Rattle.expr_meaning.specs.Outcomes.Outcome.{Ends, and_then}
use Rattle.expr_meaning.specs.Queries.{Run, globals_from, program_at, variable_outcome}
use Rattle.eval_scopes.specs.declared.faults.EvalFault.{EvalFault}
use Rattle.eval_scopes.specs.declared.scopes.Variable.{Variable}
use Rattle.eval_scopes.specs.Answers.{IsFaultOf}
use Rattle.expr_meaning.specs.Env.{Binding}
use Rattle.eval_scopes.specs.Scopes.{binding_of}
use Rattle.eval_steps.proofs.Follow.{fault_first}

module _ (run : Run) (document : Item) (n : ℕ) (vs : List QueryVar) (start : ℕ) where
  -- what is left, after so many are bound
  abbrev pub BoundSoFar : List Binding → ℕ → ℕ → Type 0
  BoundSoFar bound i k =
      globals_from run document n (drop i vs) bound k
      ≡ globals_from run document n vs [] start

  module _ (bound : List Binding) (i k : ℕ) (left : BoundSoFar bound i k) where
    module _ (v d : QueryVar) (is : v ≡ get_or vs i d) (there : i < length vs) where
      next_one : and_then
          (variable_outcome run (program_at run bound n) document v k)
          (λ xs j. globals_from run document n (drop (suc i) vs)
          ((v.name, xs) ∷ bound) j)
          ≡ globals_from run document n vs [] start
      next_one =
          ap (λ l. globals_from run document n l bound k)
          (ap (λ w. w ∷ drop (suc i) vs) is ∙ sym (drop-cons vs i d there))
          ∙ left

      pub bound_next : (value : List Item) (j : ℕ) (w : Variable) →
          variable_outcome run (program_at run bound n) document v k
          ≡ Ends value j →
          binding_of w ≡ (v.name, value) → BoundSoFar (binding_of w ∷ bound) (suc i) j
      bound_next value j w ends e =
          ap (λ b. globals_from run document n (drop (suc i) vs) (b ∷ bound) j) e
          ∙ ap (λ o. and_then o (λ xs j. globals_from run document n (drop (suc i) vs)
          ((v.name, xs) ∷ bound) j)) (sym ends)
          ∙ next_one

      pub fault_there : (f : EvalFault) →
          IsFaultOf f (variable_outcome run (program_at run bound n) document v k) →
          IsFaultOf f (globals_from run document n vs [] start)
      fault_there f h = rw next_one at (fault_first f _ (λ xs j. globals_from run document n
          (drop (suc i) vs) ((v.name, xs) ∷ bound) j) h)

    pub all_bound : length vs < suc i → globals_from run document n vs [] start
        ≡ Ends bound k
    all_bound h =
        sym left
        ∙ ap (λ l. globals_from run document n l bound k)
        (drop_of_length-le vs (omega (arith, h)))
