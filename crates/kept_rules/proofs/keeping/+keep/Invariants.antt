use Rattle.std.proofs.Common.{◌≡◌, drop, map}
use Rattle.raw_laws.specs.CleanRaws.Keeps.{all, all_binds, all_attrs, keeps_rules, arm_keeps_rules}
use Rattle.raw_laws.specs.CleanRaws.Keeps.{clause_keeps_rules, kept_bind, order_keeps_rules, kept_attr}
use Rattle.raw_laws.specs.CleanRaws.Keeps.{part_keeps_rules}
use Rattle.kept_rules.proofs.keeping.+keep.Given as goal

abbrev pub invariant-all_keep-loop-e : goal.invariant-all_keep-loop-e
invariant-all_keep-loop-e l =
    all (map keeps_rules (drop l.e-index l.es)) ≡ all (map keeps_rules l.es)

abbrev pub invariant-arms_keep-loop-arm : goal.invariant-arms_keep-loop-arm
invariant-arms_keep-loop-arm l =
    all (map arm_keeps_rules (drop l.arm-index l.arms)) ≡ all (map arm_keeps_rules l.arms)

abbrev pub invariant-attrs_keep-loop-attr : goal.invariant-attrs_keep-loop-attr
invariant-attrs_keep-loop-attr l =
    all_attrs (map kept_attr (drop l.attr-index l.attrs)) ≡ all_attrs (map kept_attr l.attrs)

abbrev pub invariant-binds_keep-loop-bind : goal.invariant-binds_keep-loop-bind
invariant-binds_keep-loop-bind l =
    all_binds (map kept_bind (drop l.bind-index l.binds)) ≡ all_binds (map kept_bind l.binds)

abbrev pub invariant-clauses_keep-loop-clause : goal.invariant-clauses_keep-loop-clause
invariant-clauses_keep-loop-clause l =
    all (map clause_keeps_rules (drop l.clause-index l.clauses))
    ≡ all (map clause_keeps_rules l.clauses)

abbrev pub invariant-orders_keep-loop-order : goal.invariant-orders_keep-loop-order
invariant-orders_keep-loop-order l =
    all (map order_keeps_rules (drop l.order-index l.orders)) ≡ all (map order_keeps_rules l.orders)

abbrev pub invariant-parts_keep-loop-part : goal.invariant-parts_keep-loop-part
invariant-parts_keep-loop-part l =
    all (map part_keeps_rules (drop l.part-index l.parts)) ≡ all (map part_keeps_rules l.parts)
