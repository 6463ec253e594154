use Rattle.std.proofs.Common.{◌≡◌, drop, map}
use Rattle.xt_forms.specs.Regular.{every}
use Rattle.closed_queries.specs.ExprTexts.{has_sound_texts, is_sound_arm, is_sound_clause, bound_of, every_bound, is_sound_order, is_sound_attr, is_sound_part}
use Rattle.closed_queries.proofs.expr_texts.+sound.Given as goal

abbrev pub invariant-are_sound-loop-e : goal.invariant-are_sound-loop-e
invariant-are_sound-loop-e l = every (map has_sound_texts (drop l.e-index l.all)) ≡ every (map has_sound_texts l.all)

abbrev pub invariant-are_sound_arms-loop-arm : goal.invariant-are_sound_arms-loop-arm
invariant-are_sound_arms-loop-arm l = every (map is_sound_arm (drop l.arm-index l.all)) ≡ every (map is_sound_arm l.all)

abbrev pub invariant-are_sound_binds-loop-bind : goal.invariant-are_sound_binds-loop-bind
invariant-are_sound_binds-loop-bind l = every_bound (map bound_of (drop l.bind-index l.all)) ≡ every_bound (map bound_of l.all)

abbrev pub invariant-are_sound_clauses-loop-clause : goal.invariant-are_sound_clauses-loop-clause
invariant-are_sound_clauses-loop-clause l = every (map is_sound_clause (drop l.clause-index l.all)) ≡ every (map is_sound_clause l.all)

abbrev pub invariant-are_sound_orders-loop-order : goal.invariant-are_sound_orders-loop-order
invariant-are_sound_orders-loop-order l = every (map is_sound_order (drop l.order-index l.all)) ≡ every (map is_sound_order l.all)

abbrev pub invariant-are_sound_attrs-loop-attr : goal.invariant-are_sound_attrs-loop-attr
invariant-are_sound_attrs-loop-attr l = every (map is_sound_attr (drop l.attr-index l.all)) ≡ every (map is_sound_attr l.all)

abbrev pub invariant-are_sound_parts-loop-part : goal.invariant-are_sound_parts-loop-part
invariant-are_sound_parts-loop-part l = every (map is_sound_part (drop l.part-index l.all)) ≡ every (map is_sound_part l.all)
