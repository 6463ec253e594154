use Rattle.std.proofs.Common.{◌≡◌, drop, map}
use Rattle.std.specs.List.{list_all}
use Rattle.xt_forms.specs.Quiet.{quiet_form_of, is_truth, is_predicate}
use Rattle.xt_forms.proofs.quietness.+quiet.Given as goal

abbrev pub invariant-are_truths-loop-e : goal.invariant-are_truths-loop-e
invariant-are_truths-loop-e l = list_all is_truth (map quiet_form_of (drop l.e-index l.all)) ≡ list_all is_truth (map quiet_form_of l.all)

abbrev pub invariant-are_predicates-loop-e : goal.invariant-are_predicates-loop-e
invariant-are_predicates-loop-e l = list_all is_predicate (map quiet_form_of (drop l.e-index l.all)) ≡ list_all is_predicate (map quiet_form_of l.all)
