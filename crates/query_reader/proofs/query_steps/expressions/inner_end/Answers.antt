use Rattle.std.proofs.Common.{subst}
use Rattle.query_reader.proofs.QuerySteps.ExpressionLemmas.{Ended, inner_nothing, inner_value, inner_deep}
use Rattle.query_reader.proofs.query_steps.expressions.inner_end.Goals as goal

pub returns-in-Nothing : goal.returns-in-Nothing
returns-in-Nothing c = λ k fs ts h.
    inner_nothing k c.args.reader c.args.signature fs ts
    (subst (λ z. Ended z c.args.reader) c.in-Nothing.is c.in_ok-finish.ensures) h

pub returns-in-TooDeep : goal.returns-in-TooDeep
returns-in-TooDeep c = λ k fs ts h.
    inner_deep k c.args.reader c.args.signature fs ts
    (subst (λ z. Ended z c.args.reader) c.in-TooDeep.is c.in_ok-finish.ensures) h

pub returns-in-Value : goal.returns-in-Value
returns-in-Value c = λ k fs ts h.
    inner_value k c.args.reader c.args.signature c.in-Value.raw fs ts
    (subst (λ z. Ended z c.args.reader) c.in-Value.is c.in_ok-finish.ensures) h
