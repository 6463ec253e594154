use Rattle.std.proofs.lemmas.Result.{IfOk-weaker, IfErr-weaker, err_from_is_err_and}
use Rattle.command_words.specs.Requests.{inputs_in}
use Rattle.driver.proofs.QueryRuns.QueryLemmas.{same_run, run_refused, items_unwritten, items_written}
use Rattle.driver.proofs.query_runs.query.result_text.Goals as goal

pub returns-clause-text : goal.returns-clause-text
returns-clause-text c =
    IfOk-weaker c.written-text.result _ _
    (λ text made. items_written c.args.query.now (inputs_in c.args.inputs.now) c.args.trees.now.document c.args.trees.now.documents _ c.in_ok-items.items c.in_ok-items.ensures.items.0 text.items
    (same_run c.args.query.now (inputs_in c.args.inputs.now) c.args.trees.now.document c.args.trees.now.documents c.in_ok-document.document c.in_ok-set.set c.in_ok-document.ensures c.in_ok-set.ensures)
    c.in_ok-items.ensures.items.1 made)
    c.written-text.ensures.text

pub returns-clause-refused : goal.returns-clause-refused
returns-clause-refused c =
    IfErr-weaker c.written-text.result _ _
    (λ status refused. items_unwritten c.args.query.now (inputs_in c.args.inputs.now) c.args.trees.now.document c.args.trees.now.documents _ c.in_ok-items.items c.in_ok-items.ensures.items.0 status
    (same_run c.args.query.now (inputs_in c.args.inputs.now) c.args.trees.now.document c.args.trees.now.documents c.in_ok-document.document c.in_ok-set.set c.in_ok-document.ensures c.in_ok-set.ensures)
    c.in_ok-items.ensures.items.1 refused)
    c.written-text.ensures.refused

pub returns-in_err-items-clause-refused : goal.returns-in_err-items-clause-refused
returns-in_err-items-clause-refused c =
    let p = err_from_is_err_and c.from_residual-in_err-items.result c.from_residual-in_err-items.ensures.1 in
    rw (p.1, p.2) (run_refused c.args.query.now (inputs_in c.args.inputs.now) c.args.trees.now.document c.args.trees.now.documents _ c.in_err-items.field-0.0
    (same_run c.args.query.now (inputs_in c.args.inputs.now) c.args.trees.now.document c.args.trees.now.documents c.in_ok-document.document c.in_ok-set.set c.in_ok-document.ensures c.in_ok-set.ensures)
    c.in_err-items.ensures.refused)
