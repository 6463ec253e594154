use Rattle.std.proofs.Common.{sym, ◌∙◌}
use Rattle.std.proofs.lemmas.Result.{IfOk-weaker}
use Rattle.query_reader.proofs.QuerySteps.StepLemmas.{at_key, value_ends, value_goes}
use Rattle.query_reader.proofs.query_steps.steps.value_step.Goals as goal
use Rattle.expr_keys.specs.declared.keys.Key.TheVariants as key

pub returns-then-fits_key : goal.returns-then-fits_key
returns-then-fits_key c =
    IfOk-weaker c.value_end.result _ _
    (λ x h. λ k fs ts e g. value_ends k x c.args.variable fs c.args.token.now c.args.second ts
    (sym c.fits_key.ensures ∙ c.if-fits_key.true)
    (h k fs ts (at_key k c.args.reader fs c.args.token.now key.Semicolon ts
    (sym c.fits_key.ensures ∙ c.if-fits_key.true) g)))
    c.value_end.ensures

pub returns-else-fits_key : goal.returns-else-fits_key
returns-else-fits_key c =
    IfOk-weaker c.value_on.result _ _
    (λ x h. λ k fs ts e g. value_goes k x c.args.variable fs c.args.token.now c.args.second ts
    (sym c.fits_key.ensures ∙ c.if-fits_key.false) (h k fs ts e g))
    c.value_on.ensures
