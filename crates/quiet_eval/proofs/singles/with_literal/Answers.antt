use Rattle.std.proofs.Common.{◌≡◌, subst, true, ap}
use Rattle.quiet_meaning.specs.Quietly.{Quietly, quietly_of, is_pattern_form, compared_with_literal}
use Rattle.xt_forms.specs.Quiet.{quiet_call}
use Rattle.quiet_eval.proofs.JudgeLemmas.{name_compares}
use Rattle.quiet_eval.proofs.CaseLemmas.{call_is, literal_nodes}
use Rattle.std.proofs.Common.{◌∙◌}
use Rattle.quiet_eval.proofs.singles.with_literal.Goals as goal
use Rattle.quiet_eval.specs.QuietPlaces.Free.{focus}

pub returns-in-Call : goal.returns-in-Call
returns-in-Call c =
    let f = focus c.args.node.now c.args.position c.args.size in
    let e = ap quietly_of c.in-Call.is ∙ call_is c.in-Call.name c.in-Call.field-1 in
    let h = subst (λ (q : Quietly). is_pattern_form (compared_with_literal c.args.op c.args.text.now q) ≡ true) e c.requires.form in
    rw (e, ← name_compares c.args.op c.args.text.now (quiet_call c.in-Call.name) c.in-Call.name.local c.in-Call.field-1 f h) c.name_compares.ensures

pub returns-in_default : goal.returns-in_default
returns-in_default c =
    let f = focus c.args.node.now c.args.position c.args.size in
    rw (← literal_nodes c.args.op c.args.text.now c.args.a.now f c.in_default.not-Call c.requires.form, ← c.requires.nodes) c.text_compares_some.ensures
