use Rattle.std.proofs.Common.{subst}
use Rattle.query_grammar.specs.Machine as machine
use Rattle.expr_grammar.specs.Machine.{advance}
use Rattle.expr_keys.specs.declared.productions.Language.TheVariants.{Xquery as xquery}
use Rattle.query_reader.specs.QuerySteps.Stands.{Moves}
use Rattle.query_reader.proofs.QuerySteps.ExpressionLemmas.{frames_none, frames_inner}
use Rattle.query_reader.proofs.query_steps.expressions.inner_on.Goals as goal

pub returns-in-None : goal.returns-in-None
returns-in-None c = λ k fs ts e h.
    frames_none k (machine.inner c.args.signature)
    (advance xquery c.args.token.now c.args.second fs) ts
    (subst (λ z. Moves k z (advance xquery c.args.token.now c.args.second fs) ts) c.in-None.is
    (c.in_ok-lead.ensures k fs ts e h))

pub returns-in-Some : goal.returns-in-Some
returns-in-Some c = λ k fs ts e h.
    frames_inner k c.args.signature c.in-Some.reader
    (advance xquery c.args.token.now c.args.second fs) ts
    (subst (λ z. Moves k z (advance xquery c.args.token.now c.args.second fs) ts) c.in-Some.is
    (c.in_ok-lead.ensures k fs ts e h))
