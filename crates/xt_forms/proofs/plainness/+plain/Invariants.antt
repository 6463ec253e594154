use Rattle.std.proofs.Common.{◌≡◌, drop, map}
use Rattle.xt_forms.specs.Plain.{has_plain_forms, is_plain_arm, is_plain_bind, is_plain_clause}
use Rattle.xt_forms.specs.Regular.{every}
use Rattle.xt_forms.proofs.plainness.+plain.Given as goal

abbrev pub invariant-are_plain-loop-e : goal.invariant-are_plain-loop-e
invariant-are_plain-loop-e l = every (map has_plain_forms (drop l.e-index l.all)) ≡ every (map has_plain_forms l.all)

abbrev pub invariant-are_plain_arms-loop-arm : goal.invariant-are_plain_arms-loop-arm
invariant-are_plain_arms-loop-arm l = every (map is_plain_arm (drop l.arm-index l.all)) ≡ every (map is_plain_arm l.all)

abbrev pub invariant-are_plain_binds-loop-bind : goal.invariant-are_plain_binds-loop-bind
invariant-are_plain_binds-loop-bind l = every (map is_plain_bind (drop l.bind-index l.all)) ≡ every (map is_plain_bind l.all)

abbrev pub invariant-are_plain_clauses-loop-clause : goal.invariant-are_plain_clauses-loop-clause
invariant-are_plain_clauses-loop-clause l = every (map is_plain_clause (drop l.clause-index l.all)) ≡ every (map is_plain_clause l.all)
