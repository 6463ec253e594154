use Rattle.flow_eval.proofs.RowLemmas.{pushed_row}
use Rattle.flow_eval.proofs.rows.Rows.push.Goals as goal

pub returns-clause-rows : goal.returns-clause-rows
returns-clause-rows c =
    rw (c.in_ok-push.ensures.items, c.in_ok-push-2.ensures.ok, ← c.in_ok-copy_variables.ensures)
    (pushed_row c.args.self.now.tuples.items c.args.self.now.keys c.in_ok-copy_variables.field-0
    c.args.keys c.requires)
