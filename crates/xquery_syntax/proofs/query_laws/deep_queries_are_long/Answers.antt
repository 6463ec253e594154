use Rattle.xquery_syntax.proofs.QueryLaws.Depth.{text_nest}
use Rattle.xquery_syntax.proofs.query_laws.deep_queries_are_long.Goals as goal

pub returns : goal.returns
returns c = text_nest
