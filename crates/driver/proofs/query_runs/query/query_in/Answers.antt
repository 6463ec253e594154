use Rattle.std.proofs.lemmas.Result.{IfErr-weaker}
use Rattle.driver.proofs.QueryRuns.QueryLemmas.{none_of_bytes}
use Rattle.driver.proofs.query_runs.query.query_in.Goals as goal

pub returns-in-Ok-clause-refused : goal.returns-in-Ok-clause-refused
returns-in-Ok-clause-refused c =
    IfErr-weaker c.parsed.result _ _
    (λ status x. none_of_bytes c.args.bytes.now c.in-Ok.text.now status c.in-Ok.ensures.cases.0 x)
    c.parsed.ensures.refused
