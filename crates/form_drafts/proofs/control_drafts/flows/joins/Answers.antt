use Rattle.std.proofs.Common.{◌<◌, ◌∙◌, sym, ap, arith}
use Rattle.expr_drafts.specs.ExprPlaces.Forms.{clause_form}
use Rattle.form_drafts.proofs.ControlDrafts.ClauseTurns.{joins_before}
use Rattle.form_drafts.proofs.control_drafts.flows.joins.Goals as goal

pub returns : goal.returns
returns c = λ p.
    let positive : 0 < c.args.place = omega arith in
    c.is_loop.ensures p ∙ (ap (λ x. (clause_form p x).loops) c.index-clauses-place.is
    ∙ sym (joins_before p c.args.clauses.now c.args.place c.index-clauses-place.result positive c.requires))
