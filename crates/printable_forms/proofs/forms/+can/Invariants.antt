use Rattle.std.proofs.Common.{◌≡◌, ◌&&◌, not, drop, map}
use Rattle.expr_raws.specs.PathRaws.Forms.{all_can}
use Rattle.expr_raws.specs.ControlRaws.Operators.{arms_can}
use Rattle.expr_raws.specs.ControlRaws.Bindings.{binds_can, clauses_can, orders_can}
use Rattle.expr_raws.specs.ElementRaws.Direct.{attrs_can, parts_can, starts_characters}
use Rattle.expr_raws.specs.Raws.{form_of}
use Rattle.expr_drafts.specs.ExprPlaces.Forms.{arm_form, bind_form, clause_form, order_form, attr_form}
use Rattle.expr_drafts.specs.ExprPlaces.Forms.{part_form}
use Rattle.printable_forms.proofs.forms.+can.Given as goal

abbrev pub invariant-can_each-loop-e : goal.invariant-can_each-loop-e
invariant-can_each-loop-e l =
    all_can (map (form_of l.prefixes) (drop l.e-index l.es))
    ≡ all_can (map (form_of l.prefixes) l.es)

abbrev pub invariant-can_arms-loop-arm : goal.invariant-can_arms-loop-arm
invariant-can_arms-loop-arm l =
    arms_can (map (arm_form l.prefixes) (drop l.arm-index l.arms))
    ≡ arms_can (map (arm_form l.prefixes) l.arms)

abbrev pub invariant-can_binds-loop-bind : goal.invariant-can_binds-loop-bind
invariant-can_binds-loop-bind l =
    binds_can (map (bind_form l.prefixes) (drop l.bind-index l.binds))
    ≡ binds_can (map (bind_form l.prefixes) l.binds)

abbrev pub invariant-can_clauses-loop-clause : goal.invariant-can_clauses-loop-clause
invariant-can_clauses-loop-clause l =
    clauses_can (map (clause_form l.prefixes) (drop l.clause-index l.clauses))
    ≡ clauses_can (map (clause_form l.prefixes) l.clauses)

abbrev pub invariant-can_orders-loop-order : goal.invariant-can_orders-loop-order
invariant-can_orders-loop-order l =
    orders_can (map (order_form l.prefixes) (drop l.order-index l.orders))
    ≡ orders_can (map (order_form l.prefixes) l.orders)

abbrev pub invariant-can_attrs-loop-attr : goal.invariant-can_attrs-loop-attr
invariant-can_attrs-loop-attr l =
    attrs_can l.prefixes (map (attr_form l.prefixes) (drop l.attr-index l.attrs))
    ≡ attrs_can l.prefixes (map (attr_form l.prefixes) l.attrs)

abbrev pub invariant-can_parts-loop-part : goal.invariant-can_parts-loop-part
invariant-can_parts-loop-part l =
    let left = map (part_form l.prefixes) (drop l.part-index l.parts) in
    (not (l.behind && starts_characters left) && parts_can l.value left)
    ≡ parts_can l.value (map (part_form l.prefixes) l.parts)
