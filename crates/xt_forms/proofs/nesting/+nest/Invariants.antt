use Rattle.std.proofs.Common.{◌≡◌, drop, map, min, max}
use Rattle.xt_forms.specs.Nest.{nest_of, arm_nest_of, bind_nest_of, clause_nest_of, order_nest_of, attr_nest_of, part_nest_of}
use Rattle.xt_forms.proofs.nesting.+nest.Given as goal
use Rattle.xt_names.specs.Lists.{greatest}

abbrev pub invariant-nest_list-loop-e : goal.invariant-nest_list-loop-e
invariant-nest_list-loop-e l =
    max l.most (min (greatest (map nest_of (drop l.e-index l.all))) 0xFFFF_FFFF) ≡ min (greatest (map nest_of l.all)) 0xFFFF_FFFF

abbrev pub invariant-nest_arms-loop-arm : goal.invariant-nest_arms-loop-arm
invariant-nest_arms-loop-arm l =
    max l.most (min (greatest (map arm_nest_of (drop l.arm-index l.all))) 0xFFFF_FFFF) ≡ min (greatest (map arm_nest_of l.all)) 0xFFFF_FFFF

abbrev pub invariant-nest_binds-loop-bind : goal.invariant-nest_binds-loop-bind
invariant-nest_binds-loop-bind l =
    max l.most (min (greatest (map bind_nest_of (drop l.bind-index l.all))) 0xFFFF_FFFF) ≡ min (greatest (map bind_nest_of l.all)) 0xFFFF_FFFF

abbrev pub invariant-nest_clauses-loop-clause : goal.invariant-nest_clauses-loop-clause
invariant-nest_clauses-loop-clause l =
    max l.most (min (greatest (map clause_nest_of (drop l.clause-index l.all))) 0xFFFF_FFFF) ≡ min (greatest (map clause_nest_of l.all)) 0xFFFF_FFFF

abbrev pub invariant-nest_orders-loop-order : goal.invariant-nest_orders-loop-order
invariant-nest_orders-loop-order l =
    max l.most (min (greatest (map order_nest_of (drop l.order-index l.all))) 0xFFFF_FFFF) ≡ min (greatest (map order_nest_of l.all)) 0xFFFF_FFFF

abbrev pub invariant-nest_attrs-loop-attr : goal.invariant-nest_attrs-loop-attr
invariant-nest_attrs-loop-attr l =
    max l.most (min (greatest (map attr_nest_of (drop l.attr-index l.all))) 0xFFFF_FFFF) ≡ min (greatest (map attr_nest_of l.all)) 0xFFFF_FFFF

abbrev pub invariant-nest_parts-loop-part : goal.invariant-nest_parts-loop-part
invariant-nest_parts-loop-part l =
    max l.most (min (greatest (map part_nest_of (drop l.part-index l.all))) 0xFFFF_FFFF) ≡ min (greatest (map part_nest_of l.all)) 0xFFFF_FFFF
