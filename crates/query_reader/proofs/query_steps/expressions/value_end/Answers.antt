use Rattle.std.proofs.Common.{subst}
use Rattle.query_reader.proofs.QuerySteps.ExpressionLemmas.{Ended, value_nothing, value_value, value_deep}
use Rattle.query_reader.proofs.query_steps.expressions.value_end.Goals as goal

pub returns-in-Nothing : goal.returns-in-Nothing
returns-in-Nothing c = λ k fs ts h.
    value_nothing k c.args.reader c.args.variable fs ts
    (subst (λ z. Ended z c.args.reader) c.in-Nothing.is c.in_ok-finish.ensures) h

pub returns-in-TooDeep : goal.returns-in-TooDeep
returns-in-TooDeep c = λ k fs ts h.
    value_deep k c.args.reader c.args.variable fs ts
    (subst (λ z. Ended z c.args.reader) c.in-TooDeep.is c.in_ok-finish.ensures) h

pub returns-in-Value : goal.returns-in-Value
returns-in-Value c = λ k fs ts h.
    value_value k c.args.reader c.args.variable c.in-Value.raw fs ts
    (subst (λ z. Ended z c.args.reader) c.in-Value.is c.in_ok-finish.ensures) h
