-- The answer, by what is found.
use Rattle.std.proofs.Common.{◌≡◌, Bool, true, false, if◌then◌else◌, Result, refl, sym, subst}
use Rattle.xt_names.specs.declared.codes.Code.{Code}
use Rattle.xt_syntax.specs.declared.queries.Query.{Query}
use Rattle.xt_syntax.specs.declared.prefixes.ParseFault.{ParseFault}
use Rattle.query_grammar.specs.declared.declared.RawQuery.{RawQuery}
use Rattle.query_resolve.specs.Queries.{resolved}
use Rattle.query_resolve.specs.Queries as meaning
use Rattle.xquery_syntax.specs.QueryLaws.Shapes.{is_shaped_query}
use Rattle.xquery_syntax.specs.Answers.{value, syntax, static, meant_answer, answer}
use Rattle.xquery_syntax.specs.Answers.{Gives}

pub means_static : (raw : RawQuery) (c : Code) → resolved raw ≡ meaning.static c
    → meant_answer (resolved raw) ≡ static c
means_static raw c e = rw e refl

pub means_value : (raw : RawQuery) (q : Query) (r : Result Query ParseFault)
    → resolved raw ≡ meaning.value q → Gives r (value q)
    → Gives r (meant_answer (resolved raw))
means_value raw q r e g = subst (λ a. Gives r (meant_answer a)) (sym e) g

pub ruleset meant_so = (means_static, means_value)

pub misshapen_syntax : (raw : RawQuery) → false ≡ is_shaped_query raw → answer raw ≡ syntax
misshapen_syntax raw e = rw (sym e) refl

pub shaped_answer : (raw : RawQuery) (r : Result Query ParseFault) → true ≡ is_shaped_query raw
    → Gives r (meant_answer (resolved raw)) → Gives r (answer raw)
shaped_answer raw r e g =
    subst (λ (b : Bool). Gives r (if b then meant_answer (resolved raw) else syntax)) e g

pub ruleset shaping = (misshapen_syntax, shaped_answer)
