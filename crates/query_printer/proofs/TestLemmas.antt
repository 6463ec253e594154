-- What is asked of a query that is printed.
use Rattle.std.proofs.Common.{◌≡◌, true, ◌&&◌}
use Rattle.std.proofs.lemmas.Bool.{and_parts}
use Rattle.xt_names.specs.Allowed.{is_empty_text}
use Rattle.xt_syntax.specs.declared.queries.Query.{Query}
use Rattle.printed_laws.specs.QueryRaws.Queries.{can_print}
use Rattle.printed_laws.specs.PrintedQueries.Keeps.{is_kept, has_own_prefixes, keeps_declarations}
use Rattle.std.proofs.Math.Bool.{and-true, and-false}

pub ruleset tests = (and-true, and-false)

-- what is kept has a way to be written
pub kept_can : (q : Query) → is_kept q ≡ true → can_print q ≡ true
kept_can q h = (and_parts (can_print q)
    (is_empty_text q.element_default && (has_own_prefixes q && keeps_declarations q)) h).0
