use Rattle.std.proofs.Common.{subst}
use Rattle.expr_meaning.specs.Meaning.{outcome}
use Rattle.flow_eval.specs.FlowStreams.Streams.{IsStill}
use Rattle.flow_eval.proofs.FlowStreams.Clauses.{still_bound}
use Rattle.flow_eval.proofs.flow_streams.streams.is_still_bind.Goals as goal

pub returns-then-is_untyped : goal.returns-then-is_untyped
returns-then-is_untyped c e p =
    still_bound p c.args.bind.now (c.is_untyped.ensures c.if-is_untyped.true)
    (subst (λ x. IsStill (outcome p x)) c.get.ensures (c.is_still.ensures e p))
