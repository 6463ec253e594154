use Rattle.std.proofs.Common.{◌≡◌, drop, map}
use Rattle.xt_forms.specs.Regular.{every}
use Rattle.closed_sheets.specs.Forms.{has_xpath_forms, is_xpath_arm, is_xpath_bind}
use Rattle.closed_sheets.specs.Forms.{is_xpath_clause}
use Rattle.closed_sheets.proofs.forms.+forms.Given as goal

abbrev pub invariant-are_xpath-loop-e : goal.invariant-are_xpath-loop-e
invariant-are_xpath-loop-e l =
    every (map has_xpath_forms (drop l.e-index l.all)) ≡ every (map has_xpath_forms l.all)

abbrev pub invariant-are_xpath_arms-loop-arm : goal.invariant-are_xpath_arms-loop-arm
invariant-are_xpath_arms-loop-arm l =
    every (map is_xpath_arm (drop l.arm-index l.all)) ≡ every (map is_xpath_arm l.all)

abbrev pub invariant-are_xpath_binds-loop-bind : goal.invariant-are_xpath_binds-loop-bind
invariant-are_xpath_binds-loop-bind l =
    every (map is_xpath_bind (drop l.bind-index l.all)) ≡ every (map is_xpath_bind l.all)

abbrev pub invariant-are_xpath_clauses-loop-clause : goal.invariant-are_xpath_clauses-loop-clause
invariant-are_xpath_clauses-loop-clause l =
    every (map is_xpath_clause (drop l.clause-index l.all)) ≡ every (map is_xpath_clause l.all)
