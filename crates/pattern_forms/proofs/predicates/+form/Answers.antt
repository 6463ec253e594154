use Rattle.std.proofs.Common.{◌∙◌, sym, ap, arith}
use Rattle.pattern_forms.specs.Forms as forms
use Rattle.pattern_forms.proofs.FormLemmas.{in-is, general_in, slash_in, any_stops, any_goes, any_ends, tested_stops, tested_goes, tested_ends, every_goes, every_ends, call_empty, call_only, call_many}
use Rattle.pattern_forms.proofs.predicates.+form.Goals as goal

pub any-returns-then-not-is_truth : goal.any-returns-then-not-is_truth
any-returns-then-not-is_truth t c = any_stops _ _ c.e-item.result _ c.loop-e-test.true c.e-item.is c.form.ensures (sym c.is_truth.ensures ∙ c.if-not-is_truth.true) c.loop-e.invariant

pub any-loop-e-preserved : goal.any-loop-e-preserved
any-loop-e-preserved t c = any_goes _ _ c.e-item.result _ c.loop-e-test.true c.e-item.is c.form.ensures (sym c.is_truth.ensures ∙ c.if-not-is_truth.false) c.loop-e.invariant

pub any-returns : goal.any-returns
any-returns t c = any_ends _ c.loop-e.e-index (omega arith) c.loop-e.invariant

pub tested-returns-then-not-is_predicate : goal.tested-returns-then-not-is_predicate
tested-returns-then-not-is_predicate t c = tested_stops _ _ c.e-item.result _ c.loop-e-test.true c.e-item.is c.form.ensures (sym c.is_predicate.ensures ∙ c.if-not-is_predicate.true) c.loop-e.invariant

pub tested-loop-e-preserved : goal.tested-loop-e-preserved
tested-loop-e-preserved t c = tested_goes _ _ c.e-item.result _ c.loop-e-test.true c.e-item.is c.form.ensures (sym c.is_predicate.ensures ∙ c.if-not-is_predicate.false) c.loop-e.invariant

pub tested-returns : goal.tested-returns
tested-returns t c = tested_ends _ c.loop-e.e-index (omega arith) c.loop-e.invariant

pub call-returns-in-empty : goal.call-returns-in-empty
call-returns-in-empty t c = λ local. c.called.ensures ∙ sym (call_empty c.args.f local c.args.args.now c.in-empty.len_below)

pub call-returns-in-len1 : goal.call-returns-in-len1
call-returns-in-len1 t c = λ local. c.called_with.ensures ∙ ap (forms.called_with c.args.f) (c.form.ensures ∙ in-is c.only-item.result) ∙ sym (call_only c.args.f local c.args.args.now c.only-item.result c.in-len1.len_at_least c.in-len1.len_below c.only-item.is)

pub call-returns-in_default : goal.call-returns-in_default
call-returns-in_default t c = λ local. sym (call_many c.args.f local c.args.args.now (omega arith))

pub every-loop-e-preserved : goal.every-loop-e-preserved
every-loop-e-preserved t c =
    let few = c.with_conjunct-seen.ensures.few in
    let was = c.loop-e.invariant.1 in
    (every_goes c.args.all.now c.loop-e.e-index c.e-item.result c.form.result _ _ _ _ _ _ c.loop-e-test.true c.e-item.is c.form.ensures c.loop-e.invariant.0 c.with_conjunct-seen.ensures.tally, omega arith)

pub every-returns : goal.every-returns
every-returns t c = every_ends c.args.all.now c.loop-e.e-index c.all_form.result _ _ _ (omega arith) c.loop-e.invariant.0 c.all_form.ensures

pub form-returns-in-General : goal.form-returns-in-General
form-returns-in-General t c = general_in c.args.e.now _ _ _ _ _ _ _ _ c.in-General.is c.get-in-General.ensures c.get-in-General-2.ensures c.form.ensures c.form-in-General.ensures c.compared.ensures

pub form-returns-in-Slash : goal.form-returns-in-Slash
form-returns-in-Slash t c = slash_in c.args.e.now _ _ _ _ _ _ _ c.in-Slash.is c.get-in-Slash.ensures c.get-in-Slash-2.ensures c.form-in-Slash.ensures c.form-in-Slash-2.ensures c.slashed.ensures
