use Rattle.std.proofs.Common.{chars, subst, sym}
use Rattle.driver.specs.QueryRuns.Queries.{IsNoneAs}
use Rattle.driver.proofs.QueryRuns.QueryLemmas.{none_told}
use Rattle.driver.proofs.query_runs.query.parsed.Goals as goal

pub returns-in-Err-clause-refused : goal.returns-in-Err-clause-refused
returns-in-Err-clause-refused c =
    subst (IsNoneAs (chars c.args.text.now)) (sym c.told.ensures)
    (none_told (chars c.args.text.now) c.in-Err.fault c.in-Err.ensures)
