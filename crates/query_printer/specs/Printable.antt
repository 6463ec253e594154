-- Queries that can be printed (XQuery 1.0, 4 and A).
use Rattle.std.specs.Prelude.{Bool, ◌&&◌, ℕ, nat_le}
use Rattle.xt_syntax.specs.declared.queries.Query.{Query}
use Rattle.closed_queries.specs.Closed.{is_closed}
use Rattle.token_laws.specs.WrittenTokens.Fit.{are_fit}
use Rattle.printed_laws.specs.QueryRaws.Queries.{query_tokens}
use Rattle.printed_laws.specs.PrintedQueries.Keeps.{is_kept}
use Rattle.printed_laws.specs.PrintedReads.Nests.{query_nest_of}

-- how deep a query nests at most that is printed
abbrev pub deepest : ℕ
deepest = 400

abbrev pub nests_within : Query → Bool
nests_within q = nat_le (query_nest_of q) deepest

-- it has a way to be written and breaks no rule, names nothing but what it declares, its names and
-- texts can be written, and it nests no deeper than the limit
abbrev pub is_printable : Query → Bool
is_printable q = is_kept q && (is_closed q && (are_fit (query_tokens q) && nests_within q))
