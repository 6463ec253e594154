-- What a call with so many calls left does.
use Rattle.std.proofs.Common.{◌≡◌, ℕ, zero, suc, ◌-◌, List, [], length, refl, arith, ap, sym}
use Rattle.std.proofs.Common.{◌∙◌, subst}
use Rattle.std.specs.Prelude.{Option, Some, None, Result, Ok, Err}
use Rattle.xt_names.specs.declared.codes.Code.{Code}
use Rattle.xt_names.specs.declared.codes.Code.TheVariants.{QueryStatic}
use Rattle.xt_names.specs.declared.codes.QueryStaticCode.TheVariants.{XPST0017}
use Rattle.xt_names.specs.declared.names.ExprName.{ExprName}
use Rattle.xt_atoms.specs.Casts.{Answers as AnswersValue}
use Rattle.xt_atoms.specs.declared.faults.ValueFault.{ValueFault}
use Rattle.xt_atoms.specs.declared.faults.ValueFault.TheVariants as value
use Rattle.xdm_items.specs.declared.items.Item.{Item}
use Rattle.xt_syntax.specs.declared.exprs.Expr.{Expr}
use Rattle.xt_syntax.specs.declared.queries.QueryFunction.{QueryFunction}
use Rattle.expr_meaning.specs.Outcomes.Outcome.{Outcome, Ends, Fails, Deep, and_then, step_outcome}
use Rattle.expr_meaning.specs.Env.{Binding, Program, State, no_state}
use Rattle.expr_meaning.specs.Meaning.{outcome}
use Rattle.expr_meaning.specs.Queries.{Run, calls_at, program_at, find_function, bound_params}
use Rattle.expr_meaning.specs.Queries.{body_env, converted_to}
use Rattle.eval_scopes.specs.declared.faults.EvalFault.{EvalFault}
use Rattle.eval_scopes.specs.declared.scopes.Variable.{Variable}
use Rattle.eval_scopes.specs.Answers.{IsFaultOf}
use Rattle.eval_scopes.specs.Faults.{of_value_fault}
use Rattle.eval_scopes.specs.Scopes.{pushed_on}
use Rattle.eval_steps.proofs.Follow.{fault_first}
use Rattle.xquery_eval.specs.Runs.{AnswersBound}

module _ (run : Run) (globals : List Binding) (name : ExprName) (args : List (List Item)) (k : ℕ) where
  -- no function of the name
  pub unknown_call : (n : ℕ) → find_function run.query.functions name (length args) ≡ None →
      calls_at run globals n name args k ≡ Fails (QueryStatic XPST0017)
  unknown_call zero e = rw e refl
  unknown_call (suc n) e = rw e refl

  module _ (f : QueryFunction)
      (is : find_function run.query.functions name (length args) ≡ Some f) where
    -- arguments that do not fit
    pub wrong_arguments : (n : ℕ) (code : Code) → bound_params f.params args ≡ Err code →
        calls_at run globals n name args k ≡ Fails code
    wrong_arguments zero code e = rw (is, e) refl
    wrong_arguments (suc n) code e = rw (is, e) refl

    pub wrong_fault : (n : ℕ) (fault : ValueFault) →
        AnswersBound (bound_params f.params args) (Err fault) →
        IsFaultOf (of_value_fault fault) (calls_at run globals n name args k)
    wrong_fault n (value.Error code) h = wrong_arguments n code h
    wrong_fault n (value.Memory e) h = tt

    -- no call left
    pub no_call_left : (bound : List Binding) → bound_params f.params args ≡ Ok bound →
        calls_at run globals 0 name args k ≡ Deep
    no_call_left bound e = rw (is, e) refl

    module _ (n : ℕ) (bound : List Binding) (some : n ≡ 0 → ⊥)
        (fits : bound_params f.params args ≡ Ok bound) where
      abbrev body : Outcome (List Item)
      body = outcome (program_at run globals (n - 1)) f.body (body_env bound) k

      abbrev typed_body : List Item → ℕ → Outcome (List Item)
      typed_body xs j = step_outcome (converted_to f.kind xs) j

      -- the body, with one call fewer
      body_called : calls_at run globals n name args k ≡ and_then body typed_body
      body_called = by n some
        where
          by : (m : ℕ) → (m ≡ 0 → ⊥) → calls_at run globals m name args k
              ≡ and_then (outcome (program_at run globals (m - 1)) f.body (body_env bound) k)
              typed_body
          by zero z = absurd (z refl)
          by (suc m) z =
              let e : suc m - 1 ≡ m = omega arith in
              rw (is, fits, e) refl

      pub body_fault : (fault : EvalFault) → IsFaultOf fault body →
          IsFaultOf fault (calls_at run globals n name args k)
      body_fault fault h =
          subst (IsFaultOf fault) (sym body_called) (fault_first fault body typed_body h)

      module _ (xs : List Item) (j : ℕ) (ends : body ≡ Ends xs j) where
        converted : calls_at run globals n name args k ≡ typed_body xs j
        converted = body_called ∙ ap (λ o. and_then o typed_body) ends

        pub converted_fault : (fault : ValueFault) →
            AnswersValue (converted_to f.kind xs) (Err fault) →
            IsFaultOf (of_value_fault fault) (calls_at run globals n name args k)
        converted_fault (value.Error code) h = converted ∙ ap (λ r. step_outcome r j) h
        converted_fault (value.Memory e) h = tt

        pub converted_value : (ys : List Item) → converted_to f.kind xs ≡ Ok ys →
            calls_at run globals n name args k ≡ Ends ys j
        converted_value ys h = converted ∙ ap (λ r. step_outcome r j) h

-- what the body reads is its parameters
pub same_body : (p q : Program) (e : Expr) (vs items : List Variable) (s : State) (k : ℕ) →
    p ≡ q → vs ≡ items → s ≡ no_state →
    outcome p e (record { locals = pushed_on [] vs; focus = None; state = s }) k
    ≡ outcome q e (body_env (pushed_on [] items)) k
same_body p q e vs items s k h v t =
    ap (λ r. outcome r e (record { locals = pushed_on [] vs; focus = None; state = s }) k) h
    ∙ ap (λ ws. outcome q e (record { locals = pushed_on [] ws; focus = None; state = s }) k) v
    ∙ ap (λ r. outcome q e (record { locals = pushed_on [] items; focus = None; state = r }) k) t
