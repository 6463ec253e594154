use Rattle.std.proofs.Common.{[], subst, add-one}
use Rattle.std.proofs.lemmas.Result.{err_from_is_err_and}
use Rattle.expr_meaning.specs.Queries.{globals_from}
use Rattle.eval_scopes.specs.Answers.{IsFaultOf}
use Rattle.xquery_eval.specs.Runs.{run_of}
use Rattle.xquery_eval.proofs.GlobalLemmas.{bound_next, fault_there}
use Rattle.xquery_eval.proofs.globals.global_variables.Goals as goal

pub returns-in_err-value : goal.returns-in_err-value
returns-in_err-value c =
    let run = run_of c.args.run.now in
    let document = c.args.document.now in
    let vs = c.as_slice-variable-items.result.now in
    let f = c.in_err-value.field-0.0 in
    let q = err_from_is_err_and c.from_residual.result c.from_residual.ensures.1 in
    rw (q.1, q.2) (subst
    (λ ws. IsFaultOf f (globals_from run document c.args.left ws [] c.args.next.now))
    c.as_slice-variable-items.ensures
    (fault_there run document c.args.left vs c.args.next.now c.loop-variable.globals
    c.loop-variable.variable-index c.loop-variable.next c.loop-variable.invariant
    c.variable-item.result _ c.variable-item.is c.loop-variable-test.true f
    c.in_err-value.ensures))

pub loop-variable-preserved : goal.loop-variable-preserved
loop-variable-preserved c =
    let run = run_of c.args.run.now in
    let document = c.args.document.now in
    let vs = c.as_slice-variable-items.result.now in
    rw (c.in_ok-globals.ensures, c.globals.view_is, add-one)
    (bound_next run document c.args.left vs c.args.next.now c.loop-variable.globals
    c.loop-variable.variable-index c.loop-variable.next c.loop-variable.invariant
    c.variable-item.result _ c.variable-item.is c.loop-variable-test.true c.in_ok-value.value
    c.variable_value.new.next c.in_ok-held.field-0 c.in_ok-value.ensures c.in_ok-held.ensures)
