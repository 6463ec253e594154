use Rattle.xquery_syntax.proofs.QueryLaws.Closed.{text_closed}
use Rattle.xquery_syntax.proofs.query_laws.unbroken_queries_are_closed.Goals as goal

pub returns : goal.returns
returns c = text_closed
