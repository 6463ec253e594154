use Rattle.std.proofs.lemmas.Result.{IfErr-weaker}
use Rattle.driver.proofs.QueryRuns.QueryLemmas.{query_unread}
use Rattle.driver.proofs.query_runs.query.load_query.Goals as goal

pub returns-clause-refused : goal.returns-clause-refused
returns-clause-refused g c =
    IfErr-weaker c.query_in.result _ _
    (λ status k. query_unread c.args.name.now (g.F.Files.state c.args.files.now) (g.F.Files.state c.load.new.files) _ _ status c.deref.ensures.value c.in_ok-bytes.ensures.held k)
    c.query_in.ensures.refused
