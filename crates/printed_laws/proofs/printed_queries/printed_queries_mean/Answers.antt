use Rattle.printed_laws.proofs.PrintedQueries.Queries.{query_means}
use Rattle.printed_laws.proofs.printed_queries.printed_queries_mean.Goals as goal

pub returns : goal.returns
returns c = query_means
