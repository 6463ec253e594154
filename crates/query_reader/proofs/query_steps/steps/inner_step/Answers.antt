use Rattle.std.proofs.Common.{sym, ◌∙◌}
use Rattle.std.proofs.lemmas.Result.{IfOk-weaker}
use Rattle.query_reader.proofs.QuerySteps.StepLemmas.{at_key, inner_goes, inner_within, inner_ends, tracks_now}
use Rattle.query_reader.proofs.query_steps.steps.inner_step.Goals as goal
use Rattle.expr_keys.specs.declared.keys.Key.TheVariants as key

pub returns-then-not-fits_key : goal.returns-then-not-fits_key
returns-then-not-fits_key c =
    IfOk-weaker c.inner_on.result _ _
    (λ x h. λ k fs ts e g. inner_goes k x c.args.signature fs c.args.token.now c.args.second ts
    (sym c.fits_key.ensures ∙ c.if-not-fits_key.true) (h k fs ts e g))
    c.inner_on.ensures

pub returns-then-may_end : goal.returns-then-may_end
returns-then-may_end c =
    IfOk-weaker c.inner_end.result _ _
    (λ x h. λ k fs ts e g. inner_ends k x c.args.signature fs c.args.token.now c.args.second ts
    (sym c.fits_key.ensures ∙ c.if-not-fits_key.false)
    (sym c.if-may_end.true ∙ c.may_end.ensures fs _ (tracks_now g))
    (h k fs ts (at_key k c.args.reader fs c.args.token.now key.CloseBrace ts
    (sym c.fits_key.ensures ∙ c.if-not-fits_key.false) g)))
    c.inner_end.ensures

pub returns-else-may_end : goal.returns-else-may_end
returns-else-may_end c =
    IfOk-weaker c.inner_on-else-may_end.result _ _
    (λ x h. λ k fs ts e g. inner_within k x c.args.reader c.args.signature fs c.args.token.now
    c.args.second ts (sym c.if-may_end.false ∙ c.may_end.ensures fs _ (tracks_now g))
    (h k fs ts e g))
    c.inner_on-else-may_end.ensures
