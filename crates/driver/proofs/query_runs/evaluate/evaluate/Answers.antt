use Rattle.std.proofs.Common.{refl, sym, ◌∙◌}
use Rattle.driver.proofs.QueryRuns.QueryLemmas.{run_on}
use Rattle.driver.proofs.query_runs.evaluate.evaluate.Goals as goal

pub returns-in-Ok-clause-items : goal.returns-in-Ok-clause-items
returns-in-Ok-clause-items c = (
  c.in-Ok.ensures.0,
  sym (run_on c.args.query.now c.args.document.now c.args.set.now c.args.inputs.now c.in_ok-given.given c.in_ok-given.ensures) ∙ c.in-Ok.ensures.1,
)

pub returns-in-Err-Error-clause-refused : goal.returns-in-Err-Error-clause-refused
returns-in-Err-Error-clause-refused c =
    sym (run_on c.args.query.now c.args.document.now c.args.set.now c.args.inputs.now c.in_ok-given.given c.in_ok-given.ensures)
    ∙ (rw c.in-Err-Error.field-0-is at c.in-Err-Error.ensures)

pub returns-in-Err-Deep-clause-refused : goal.returns-in-Err-Deep-clause-refused
returns-in-Err-Deep-clause-refused c = (
  refl,
  sym (run_on c.args.query.now c.args.document.now c.args.set.now c.args.inputs.now c.in_ok-given.given c.in_ok-given.ensures)
      ∙ (rw c.in-Err-Deep.field-0-is at c.in-Err-Deep.ensures),
)
