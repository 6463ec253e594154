use Rattle.std.proofs.Common.{rules, ◌≡◌, ◌-◌, [], sym, ap, ◌∙◌, subst}
use Rattle.std.specs.Prelude.{Some, Ok, Err}
use Rattle.std.specs.Option.{option_copied}
use Rattle.std.proofs.lemmas.Result.{err_from_is_err_and}
use Rattle.expr_meaning.specs.Queries.{bound_params, calls_at, find_function}
use Rattle.eval_scopes.specs.Answers.{IsFaultOf}
use Rattle.eval_scopes.specs.Scopes.{pushed_on, state_of}
use Rattle.expr_eval.specs.Serves.{Serves}
use Rattle.xquery_eval.specs.Runs.{run_of, AnswersBound}
use Rattle.xquery_eval.proofs.CallLemmas.{wrong_fault, body_fault, converted_fault}
use Rattle.xquery_eval.proofs.CallLemmas.{converted_value, same_body}
use Rattle.xquery_eval.proofs.calls.+call.Goals as goal

pub eval-requires-clause-serves : goal.eval-requires-clause-serves
unfolding Serves
eval-requires-clause-serves t c = search rules

pub returns-in_err-bound : goal.returns-in_err-bound
returns-in_err-bound t c =
    let is = sym c.in_ok-function.ensures ∙ ap option_copied c.in-Some.is in
    let q = err_from_is_err_and c.from_residual-in_err-bound.result
    c.from_residual-in_err-bound.ensures.1 in
    rw (q.1, q.2) (wrong_fault (run_of c.args.run.now) c.args.globals.now
    c.args.name.now c.args.lists.now c.args.next.now c.in-Some.function.now is c.args.left
    c.in_err-bound.field-0.0 (subst (λ ps. AnswersBound (bound_params ps c.args.lists.now)
    (Err c.in_err-bound.field-0.0)) c.as_slice.ensures c.in_err-bound.ensures))

pub returns-in_err-value : goal.returns-in_err-value
returns-in_err-value t c =
    let run = run_of c.args.run.now in
    let globals = c.args.globals.now in
    let f = c.in-Some.function.now in
    let is = sym c.in_ok-function.ensures ∙ ap option_copied c.in-Some.is in
    let fits : bound_params f.params c.args.lists.now ≡ Ok (pushed_on [] c.in_ok-bound.bound.items) =
    subst (λ ps. bound_params ps c.args.lists.now
    ≡ Ok (pushed_on [] c.in_ok-bound.bound.items)) c.as_slice.ensures c.in_ok-bound.ensures in
    let same = same_body _ _ f.body c.as_slice-2.result.now c.in_ok-bound.bound.items
    (state_of c.no_state-state.result) c.args.next.now
    (c.fixed.ensures (calls_at run globals (c.args.left - 1)))
    c.as_slice-2.ensures.value c.no_state-state.ensures in
    let q = err_from_is_err_and c.from_residual-in_err-value.result
    c.from_residual-in_err-value.ensures.1 in
    rw (q.1, q.2) (body_fault run globals c.args.name.now c.args.lists.now c.args.next.now f is
    c.args.left (pushed_on [] c.in_ok-bound.bound.items) c.if-left-eq0.false fits
    c.in_err-value.field-0.0 (subst (IsFaultOf _) same c.in_err-value.ensures))

pub returns-in_err-converted_to : goal.returns-in_err-converted_to
returns-in_err-converted_to t c =
    let run = run_of c.args.run.now in
    let globals = c.args.globals.now in
    let f = c.in-Some.function.now in
    let is = sym c.in_ok-function.ensures ∙ ap option_copied c.in-Some.is in
    let fits : bound_params f.params c.args.lists.now ≡ Ok (pushed_on [] c.in_ok-bound.bound.items) =
    subst (λ ps. bound_params ps c.args.lists.now
    ≡ Ok (pushed_on [] c.in_ok-bound.bound.items)) c.as_slice.ensures c.in_ok-bound.ensures in
    let same = same_body _ _ f.body c.as_slice-2.result.now c.in_ok-bound.bound.items
    (state_of c.no_state-state.result) c.args.next.now
    (c.fixed.ensures (calls_at run globals (c.args.left - 1)))
    c.as_slice-2.ensures.value c.no_state-state.ensures in
    let q = err_from_is_err_and c.from_residual-in_err-converted_to.result
    c.from_residual-in_err-converted_to.ensures.1 in
    rw (q.1, q.2) (converted_fault run globals c.args.name.now c.args.lists.now c.args.next.now f
    is c.args.left (pushed_on [] c.in_ok-bound.bound.items) c.if-left-eq0.false fits
    c.in_ok-value.value c.eval.new.next (sym same ∙ c.in_ok-value.ensures)
    c.in_err-converted_to.field-0.0 c.in_err-converted_to.ensures)

pub returns : goal.returns
returns t c =
    let run = run_of c.args.run.now in
    let globals = c.args.globals.now in
    let f = c.in-Some.function.now in
    let is = sym c.in_ok-function.ensures ∙ ap option_copied c.in-Some.is in
    let fits : bound_params f.params c.args.lists.now ≡ Ok (pushed_on [] c.in_ok-bound.bound.items) =
    subst (λ ps. bound_params ps c.args.lists.now
    ≡ Ok (pushed_on [] c.in_ok-bound.bound.items)) c.as_slice.ensures c.in_ok-bound.ensures in
    let same = same_body _ _ f.body c.as_slice-2.result.now c.in_ok-bound.bound.items
    (state_of c.no_state-state.result) c.args.next.now
    (c.fixed.ensures (calls_at run globals (c.args.left - 1)))
    c.as_slice-2.ensures.value c.no_state-state.ensures in
    converted_value run globals c.args.name.now c.args.lists.now c.args.next.now f is c.args.left
    (pushed_on [] c.in_ok-bound.bound.items) c.if-left-eq0.false fits c.in_ok-value.value
    c.eval.new.next (sym same ∙ c.in_ok-value.ensures) c.in_ok-converted_to.field-0
    c.in_ok-converted_to.ensures
