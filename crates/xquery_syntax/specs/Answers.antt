-- What a query gives that is read: one function of it.
use Rattle.std.specs.Prelude.{◌≡◌, ℕ, nat_le, Result, Ok, Err, if◌then◌else◌}
use Rattle.xt_names.specs.declared.codes.Code.{Code}
use Rattle.xt_syntax.specs.declared.queries.Query.{Query}
use Rattle.xt_syntax.specs.declared.prefixes.ParseFault.{ParseFault}
use Rattle.xt_syntax.specs.declared.prefixes.ParseFault.TheVariants.{Syntax, Static, TooDeep}
use Rattle.xt_syntax.specs.declared.prefixes.ParseFault.TheVariants.{Memory}
use Rattle.query_grammar.specs.declared.declared.RawQuery.{RawQuery}
use Rattle.query_resolve.specs.Queries.{resolved}
use Rattle.query_resolve.specs.Queries as meaning
use Rattle.query_texts.specs.Texts.{query_nest}
use Rattle.xquery_syntax.specs.QueryLaws.Shapes.{is_shaped_query}

-- a query, or why there is none
pub data Answer : Type 0 where
  value : Query → Answer
  syntax : Answer
  static : Code → Answer
  too_deep : Answer

-- the query that is meant
abbrev pub meant_answer : meaning.Answer → Answer
meant_answer (meaning.value q) = value q
meant_answer (meaning.static c) = static c

abbrev pub answer : RawQuery → Answer
answer raw = if is_shaped_query raw then meant_answer (resolved raw) else syntax

-- .. within a limit
abbrev pub answer_within : ℕ → RawQuery → Answer
answer_within k raw = if nat_le (query_nest raw) k then answer raw else too_deep

-- the call answers so, unless memory ran out
abbrev pub Gives : Result Query ParseFault → Answer → Type 0
Gives (Ok q) a = a ≡ value q
Gives (Err Syntax) a = a ≡ syntax
Gives (Err (Static c)) a = a ≡ static c
Gives (Err TooDeep) a = a ≡ too_deep
Gives (Err (Memory e)) a = Unit {0}
