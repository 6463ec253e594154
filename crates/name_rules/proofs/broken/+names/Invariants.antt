use Rattle.std.proofs.Common.{◌≡◌, drop, map}
use Rattle.name_rules.specs.Broken.{names_broken_of, arm_broken, clause_binder, bind_binder, order_broken, attr_broken, part_broken, all_in, binders_in, behind}
use Rattle.name_rules.specs.Faults.{first, earlier}
use Rattle.name_rules.proofs.broken.+names.Given as goal

abbrev pub invariant-check_all-loop-e : goal.invariant-check_all-loop-e
invariant-check_all-loop-e l =
    earlier l.fault (first (all_in (map (names_broken_of l.functions) (drop l.e-index l.all)) l.scope)) ≡ first (all_in (map (names_broken_of l.functions) l.all) l.scope)

abbrev pub invariant-check_arms-loop-arm : goal.invariant-check_arms-loop-arm
invariant-check_arms-loop-arm l =
    earlier l.fault (first (all_in (map (arm_broken l.functions) (drop l.arm-index l.all)) l.scope)) ≡ first (all_in (map (arm_broken l.functions) l.all) l.scope)

abbrev pub invariant-check_attrs-loop-attr : goal.invariant-check_attrs-loop-attr
invariant-check_attrs-loop-attr l =
    earlier l.fault (first (all_in (map (attr_broken l.functions) (drop l.attr-index l.all)) l.scope)) ≡ first (all_in (map (attr_broken l.functions) l.all) l.scope)

abbrev pub invariant-check_orders-loop-order : goal.invariant-check_orders-loop-order
invariant-check_orders-loop-order l =
    earlier l.fault (first (all_in (map (order_broken l.functions) (drop l.order-index l.all)) l.scope)) ≡ first (all_in (map (order_broken l.functions) l.all) l.scope)

abbrev pub invariant-check_parts-loop-part : goal.invariant-check_parts-loop-part
invariant-check_parts-loop-part l =
    earlier l.fault (first (all_in (map (part_broken l.functions) (drop l.part-index l.all)) l.scope)) ≡ first (all_in (map (part_broken l.functions) l.all) l.scope)

abbrev pub invariant-check_binds-loop-bind : goal.invariant-check_binds-loop-bind
invariant-check_binds-loop-bind l = record {
  codes :
      earlier l.fault (first (binders_in (map (bind_binder l.functions) (drop l.bind-index l.all)) l.inner)) ≡ first (binders_in (map (bind_binder l.functions) l.all) l.scope);
  names : behind (map (bind_binder l.functions) (drop l.bind-index l.all)) l.inner ≡ behind (map (bind_binder l.functions) l.all) l.scope;
}

abbrev pub invariant-check_clauses-loop-clause : goal.invariant-check_clauses-loop-clause
invariant-check_clauses-loop-clause l = record {
  codes :
      earlier l.fault (first (binders_in (map (clause_binder l.functions) (drop l.clause-index l.all)) l.inner)) ≡ first (binders_in (map (clause_binder l.functions) l.all) l.scope);
  names : behind (map (clause_binder l.functions) (drop l.clause-index l.all)) l.inner ≡ behind (map (clause_binder l.functions) l.all) l.scope;
}
