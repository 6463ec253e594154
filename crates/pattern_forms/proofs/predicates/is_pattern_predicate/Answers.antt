use Rattle.std.proofs.Common.{◌∙◌, ◌&&◌, sym, ap}
use Rattle.quiet_meaning.specs.Quietly.{quietly_of, is_pattern_form}
use Rattle.pattern_forms.proofs.FormLemmas.{allowed_is}
use Rattle.pattern_forms.proofs.predicates.is_pattern_predicate.Goals as goal

pub returns-then-is_regular : goal.returns-then-is_regular
returns-then-is_regular c =
    c.is_allowed.ensures ∙ allowed_is c.args.e.now c.form.result c.form.ensures
    ∙ sym (ap (λ b. b && is_pattern_form (quietly_of c.args.e.now)) (sym c.is_regular.ensures ∙ c.if-is_regular.true))
