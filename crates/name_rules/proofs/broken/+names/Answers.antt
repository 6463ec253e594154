use Rattle.name_rules.specs.Broken.{names_broken_of, arm_broken, clause_binder, bind_binder, order_broken, attr_broken, part_broken}
use Rattle.name_rules.proofs.FormLemmas.{of_If, of_Quant, of_Filter, of_Call, of_Direct, of_named, of_two, of_arm, of_flwor}
use Rattle.name_rules.proofs.LoopLemmas.{two_found, four_found, turn_in, turn_of_binders, turn_of_names}
use Rattle.name_rules.proofs.broken.+names.Goals as goal

pub check_all-loop-e-preserved : goal.check_all-loop-e-preserved
check_all-loop-e-preserved t c =
    turn_in (names_broken_of c.args.functions.now) c.args.all.now c.loop-e.e-index c.e-item.result c.args.scope.now c.loop-e.fault c.in_ok-found.found c.earlier-fault.result _
    c.loop-e-test.true c.e-item.is c.in_ok-found.ensures c.earlier-fault.ensures c.loop-e.invariant

pub check_arms-loop-arm-preserved : goal.check_arms-loop-arm-preserved
check_arms-loop-arm-preserved t c =
    turn_in (arm_broken c.args.functions.now) c.args.all.now c.loop-arm.arm-index c.arm-item.result c.args.scope.now c.loop-arm.fault c.in_ok-found.found c.earlier-fault.result _
    c.loop-arm-test.true c.arm-item.is c.in_ok-found.ensures c.earlier-fault.ensures c.loop-arm.invariant

pub check_attrs-loop-attr-preserved : goal.check_attrs-loop-attr-preserved
check_attrs-loop-attr-preserved t c =
    turn_in (attr_broken c.args.functions.now) c.args.all.now c.loop-attr.attr-index c.attr-item.result c.args.scope.now c.loop-attr.fault c.in_ok-found.found c.earlier-fault.result _
    c.loop-attr-test.true c.attr-item.is c.in_ok-found.ensures c.earlier-fault.ensures c.loop-attr.invariant

pub check_orders-loop-order-preserved : goal.check_orders-loop-order-preserved
check_orders-loop-order-preserved t c =
    turn_in (order_broken c.args.functions.now) c.args.all.now c.loop-order.order-index c.order-item.result c.args.scope.now c.loop-order.fault c.in_ok-found.found c.earlier-fault.result _
    c.loop-order-test.true c.order-item.is c.in_ok-found.ensures c.earlier-fault.ensures c.loop-order.invariant

pub check_parts-loop-part-preserved : goal.check_parts-loop-part-preserved
check_parts-loop-part-preserved t c =
    turn_in (part_broken c.args.functions.now) c.args.all.now c.loop-part.part-index c.part-item.result c.args.scope.now c.loop-part.fault c.in_ok-found.found c.earlier-fault.result _
    c.loop-part-test.true c.part-item.is c.in_ok-found.ensures c.earlier-fault.ensures c.loop-part.invariant

pub check_binds-loop-bind-preserved : goal.check_binds-loop-bind-preserved
check_binds-loop-bind-preserved t c =
    let s = c.in_ok-inner-2.ensures c.args.functions.now in
    record {
      codes =
          turn_of_binders (bind_binder c.args.functions.now) c.args.all.now c.loop-bind.bind-index c.bind-item.result c.loop-bind.inner c.in_ok-inner-2.inner c.loop-bind.fault c.in_ok-found.found c.earlier-fault.result _
          c.loop-bind-test.true c.bind-item.is c.in_ok-found.ensures c.earlier-fault.ensures s c.loop-bind.invariant.codes;
      names =
          turn_of_names (bind_binder c.args.functions.now) c.args.all.now c.loop-bind.bind-index c.bind-item.result c.loop-bind.inner c.in_ok-inner-2.inner _
          c.loop-bind-test.true c.bind-item.is s c.loop-bind.invariant.names;
    }

pub check_clauses-loop-clause-preserved : goal.check_clauses-loop-clause-preserved
check_clauses-loop-clause-preserved t c =
    let s = c.in_ok-inner-2.ensures c.args.functions.now in
    record {
      codes =
          turn_of_binders (clause_binder c.args.functions.now) c.args.all.now c.loop-clause.clause-index c.clause-item.result c.loop-clause.inner c.in_ok-inner-2.inner c.loop-clause.fault c.in_ok-found.found c.earlier-fault.result _
          c.loop-clause-test.true c.clause-item.is c.in_ok-found.ensures c.earlier-fault.ensures s c.loop-clause.invariant.codes;
      names =
          turn_of_names (clause_binder c.args.functions.now) c.args.all.now c.loop-clause.clause-index c.clause-item.result c.loop-clause.inner c.in_ok-inner-2.inner _
          c.loop-clause-test.true c.clause-item.is s c.loop-clause.invariant.names;
    }

pub broken_names-returns-in_ok-last-in-If : goal.broken_names-returns-in_ok-last-in-If
broken_names-returns-in_ok-last-in-If t c =
    two_found _ _ _ _ _ _ c.earlier.ensures c.in_ok-first-in-If.ensures c.in_ok-last-in-If.ensures
    (cc (of_If c.args.functions.now c.in-If.arms c.in-If.other c.args.scope.now))

pub broken_names-returns-in_ok-last-in-Quant : goal.broken_names-returns-in_ok-last-in-Quant
broken_names-returns-in_ok-last-in-Quant t c =
    two_found _ _ _ _ _ _ c.earlier-in-Quant.ensures c.in_ok-bound-in-Quant.ensures.fault c.in_ok-last-in-Quant.ensures
    (cc (c.in_ok-bound-in-Quant.ensures.scope, of_Quant c.args.functions.now c.in-Quant.field-0 c.in-Quant.binds c.in-Quant.test c.args.scope.now))

pub broken_names-returns-in_ok-last-in-Filter : goal.broken_names-returns-in_ok-last-in-Filter
broken_names-returns-in_ok-last-in-Filter t c =
    two_found _ _ _ _ _ _ c.earlier-in-Filter.ensures c.in_ok-first-in-Filter.ensures c.in_ok-last-in-Filter.ensures
    (cc (of_Filter c.args.functions.now c.in-Filter.of c.in-Filter.tests c.args.scope.now))

pub broken_names-returns-in_ok-last-in-Call : goal.broken_names-returns-in_ok-last-in-Call
broken_names-returns-in_ok-last-in-Call t c =
    two_found _ _ _ _ _ _ c.earlier-in-Call.ensures c.in_ok-first-in-Call.ensures c.in_ok-last-in-Call.ensures
    (cc (of_Call c.args.functions.now c.in-Call.name c.in-Call.args c.args.scope.now))

pub broken_names-returns-in_ok-last-in-Direct : goal.broken_names-returns-in_ok-last-in-Direct
broken_names-returns-in_ok-last-in-Direct t c =
    two_found _ _ _ _ _ _ c.earlier-in-Direct.ensures c.in_ok-first-in-Direct.ensures c.in_ok-last-in-Direct.ensures
    (cc (of_Direct c.args.functions.now c.in-Direct.field-0 c.in-Direct.attrs c.in-Direct.parts c.args.scope.now))

pub broken_names-returns-in_ok-last-in-ElemC : goal.broken_names-returns-in_ok-last-in-ElemC
broken_names-returns-in_ok-last-in-ElemC t c =
    two_found _ _ _ _ _ _ c.earlier-in-ElemC.ensures c.in_ok-first-in-ElemC.ensures c.in_ok-last-in-ElemC.ensures
    (cc (of_named c.args.functions.now c.args.e.now c.in-ElemC.name c.in-ElemC.content c.args.scope.now c.in-ElemC.is))

pub broken_names-returns-in_ok-last-in-General : goal.broken_names-returns-in_ok-last-in-General
broken_names-returns-in_ok-last-in-General t c =
    two_found _ _ _ _ _ _ c.earlier-in-General.ensures c.in_ok-first-in-General.ensures c.in_ok-last-in-General.ensures
    (cc (of_two c.args.functions.now c.args.e.now c.in-General.a c.in-General.b c.args.scope.now c.in-General.is))

pub check_arm-returns : goal.check_arm-returns
check_arm-returns t c =
    two_found _ _ _ _ _ _ c.earlier.ensures c.in_ok-first.ensures c.in_ok-last.ensures (cc (of_arm c.args.functions.now c.args.arm.now c.args.scope.now))

pub check_flwor-returns : goal.check_flwor-returns
check_flwor-returns t c =
    four_found _ _ _ _ _ _ _ _ _ _ _ _ c.earlier.ensures c.earlier-rest.ensures c.earlier-last.ensures c.in_ok-bound.ensures.fault c.in_ok-test.ensures c.in_ok-orders.ensures c.in_ok-body.ensures
    (cc (c.in_ok-bound.ensures.scope, of_flwor c.args.functions.now c.args.f.now c.args.scope.now))
