use Rattle.std.proofs.Common.{◌≡◌, drop, map}
use Rattle.sheet_uses.specs.Exprs.{expr_uses, arm_uses, bind_binder, clause_binder}
use Rattle.sheet_uses.specs.Exprs.{all_found, all_in, binders_in, behind}
use Rattle.sheet_uses.proofs.exprs.+uses.Given as goal

abbrev pub invariant-push_all-loop-e : goal.invariant-push_all-loop-e
invariant-push_all-loop-e l =
    all_found (map expr_uses (drop l.e-index l.all)) l.scope l.found
    ≡ all_found (map expr_uses l.all) l.scope l.fn.found

abbrev pub invariant-push_arms-loop-arm : goal.invariant-push_arms-loop-arm
invariant-push_arms-loop-arm l =
    all_in (map arm_uses (drop l.arm-index l.all)) l.scope l.found
    ≡ all_in (map arm_uses l.all) l.scope l.fn.found

abbrev pub invariant-push_binds-loop-bind : goal.invariant-push_binds-loop-bind
invariant-push_binds-loop-bind l = record {
  found :
      binders_in (map bind_binder (drop l.bind-index l.all)) l.inner l.found
      ≡ binders_in (map bind_binder l.all) l.scope l.fn.found;
  names :
      behind (map bind_binder (drop l.bind-index l.all)) l.inner
      ≡ behind (map bind_binder l.all) l.scope;
}

abbrev pub invariant-push_clauses-loop-clause : goal.invariant-push_clauses-loop-clause
invariant-push_clauses-loop-clause l = record {
  found :
      binders_in (map clause_binder (drop l.clause-index l.all)) l.inner l.found
      ≡ binders_in (map clause_binder l.all) l.scope l.fn.found;
  names :
      behind (map clause_binder (drop l.clause-index l.all)) l.inner
      ≡ behind (map clause_binder l.all) l.scope;
}
