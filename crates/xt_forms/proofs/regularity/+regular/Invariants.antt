use Rattle.std.proofs.Common.{◌≡◌, drop, map}
use Rattle.std.specs.Prelude.{◌&&◌}
use Rattle.xt_forms.specs.Regular.{every, every_regular, every_part_regular, chars_apart, are_regular_parts, expr_facts_of, part_facts_of, is_regular_arm, is_regular_bind, is_regular_clause, is_regular_order, is_regular_attr}
use Rattle.xt_forms.proofs.regularity.+regular.Given as goal

abbrev pub invariant-are_regular-loop-e : goal.invariant-are_regular-loop-e
invariant-are_regular-loop-e l = every_regular (map expr_facts_of (drop l.e-index l.all)) ≡ every_regular (map expr_facts_of l.all)

abbrev pub invariant-are_regular_arms-loop-arm : goal.invariant-are_regular_arms-loop-arm
invariant-are_regular_arms-loop-arm l = every (map is_regular_arm (drop l.arm-index l.all)) ≡ every (map is_regular_arm l.all)

abbrev pub invariant-are_regular_binds-loop-bind : goal.invariant-are_regular_binds-loop-bind
invariant-are_regular_binds-loop-bind l = every (map is_regular_bind (drop l.bind-index l.all)) ≡ every (map is_regular_bind l.all)

abbrev pub invariant-are_regular_clauses-loop-clause : goal.invariant-are_regular_clauses-loop-clause
invariant-are_regular_clauses-loop-clause l = every (map is_regular_clause (drop l.clause-index l.all)) ≡ every (map is_regular_clause l.all)

abbrev pub invariant-are_regular_orders-loop-order : goal.invariant-are_regular_orders-loop-order
invariant-are_regular_orders-loop-order l = every (map is_regular_order (drop l.order-index l.all)) ≡ every (map is_regular_order l.all)

abbrev pub invariant-are_regular_attrs-loop-attr : goal.invariant-are_regular_attrs-loop-attr
invariant-are_regular_attrs-loop-attr l = every (map is_regular_attr (drop l.attr-index l.all)) ≡ every (map is_regular_attr l.all)

abbrev pub invariant-are_regular_parts-loop-part : goal.invariant-are_regular_parts-loop-part
invariant-are_regular_parts-loop-part l =
    (every_part_regular (map part_facts_of (drop l.part-index l.all)) && chars_apart l.after_chars (map part_facts_of (drop l.part-index l.all)))
    ≡ are_regular_parts (map part_facts_of l.all)
