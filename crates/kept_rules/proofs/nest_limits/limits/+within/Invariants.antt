use Rattle.std.proofs.Common.{◌≡◌, drop, map, nat_le}
use Rattle.xt_forms.specs.Nest.{nest_of, arm_nest_of, bind_nest_of, clause_nest_of}
use Rattle.xt_forms.specs.Nest.{order_nest_of, attr_nest_of, part_nest_of}
use Rattle.kept_rules.proofs.nest_limits.limits.+within.Given as goal
use Rattle.xt_names.specs.Lists.{greatest}

abbrev pub invariant-all_within-loop-e : goal.invariant-all_within-loop-e
invariant-all_within-loop-e l =
    nat_le (greatest (map nest_of (drop l.e-index l.all))) l.limit
    ≡ nat_le (greatest (map nest_of l.all)) l.limit

abbrev pub invariant-arms_within-loop-arm : goal.invariant-arms_within-loop-arm
invariant-arms_within-loop-arm l =
    nat_le (greatest (map arm_nest_of (drop l.arm-index l.all))) l.limit
    ≡ nat_le (greatest (map arm_nest_of l.all)) l.limit

abbrev pub invariant-attrs_within-loop-attr : goal.invariant-attrs_within-loop-attr
invariant-attrs_within-loop-attr l =
    nat_le (greatest (map attr_nest_of (drop l.attr-index l.all))) l.limit
    ≡ nat_le (greatest (map attr_nest_of l.all)) l.limit

abbrev pub invariant-binds_within-loop-bind : goal.invariant-binds_within-loop-bind
invariant-binds_within-loop-bind l =
    nat_le (greatest (map bind_nest_of (drop l.bind-index l.all))) l.limit
    ≡ nat_le (greatest (map bind_nest_of l.all)) l.limit

abbrev pub invariant-clauses_within-loop-clause : goal.invariant-clauses_within-loop-clause
invariant-clauses_within-loop-clause l =
    nat_le (greatest (map clause_nest_of (drop l.clause-index l.all))) l.limit
    ≡ nat_le (greatest (map clause_nest_of l.all)) l.limit

abbrev pub invariant-orders_within-loop-order : goal.invariant-orders_within-loop-order
invariant-orders_within-loop-order l =
    nat_le (greatest (map order_nest_of (drop l.order-index l.all))) l.limit
    ≡ nat_le (greatest (map order_nest_of l.all)) l.limit

abbrev pub invariant-parts_within-loop-part : goal.invariant-parts_within-loop-part
invariant-parts_within-loop-part l =
    nat_le (greatest (map part_nest_of (drop l.part-index l.all))) l.limit
    ≡ nat_le (greatest (map part_nest_of l.all)) l.limit
