use Rattle.std.proofs.lemmas.Result.{err_from_is_err_and}
use Rattle.xslt_run.specs.Content.{built}
use Rattle.xslt_run.specs.Table.{rule_for}
use Rattle.xslt_run.proofs.Follow.{transform_made, transform_fault, makes_found, makes_refused}
use Rattle.xslt_run.proofs.runs.run_first_sheet.Goals as goal

pub returns-in_err-enter-clause-refused : goal.returns-in_err-enter-clause-refused
returns-in_err-enter-clause-refused c =
    let p = err_from_is_err_and c.from_residual-in_err-enter.result c.from_residual-in_err-enter.ensures.1 in
    rw (p.1, p.2)
    (transform_fault _ c.args.sheet.now c.args.document.now c.args.depth (rule_for c.in_ok-rules.rules) (built c.new-content.result) c.in_ok-rules.ensures c.in_err-enter.ensures)

pub returns-clause-found : goal.returns-clause-found
returns-clause-found c =
    makes_found _ _ _ (transform_made c.args.sheet.now c.args.document.now c.args.depth (rule_for c.in_ok-rules.rules) (built c.new-content.result) _ c.in_ok-rules.ensures c.new-content.ensures c.in_ok-enter.ensures) c.make_document.ensures

pub returns-clause-refused : goal.returns-clause-refused
returns-clause-refused c =
    makes_refused _ _ _ (transform_made c.args.sheet.now c.args.document.now c.args.depth (rule_for c.in_ok-rules.rules) (built c.new-content.result) _ c.in_ok-rules.ensures c.new-content.ensures c.in_ok-enter.ensures) c.make_document.ensures
