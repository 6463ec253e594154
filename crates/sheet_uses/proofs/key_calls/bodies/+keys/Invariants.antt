use Rattle.std.proofs.Common.{◌≡◌, drop, map}
use Rattle.sheet_uses.specs.Exprs.{all_in}
use Rattle.sheet_uses.specs.KeyCalls.Bodies.{instr_keys, bound_keys, when_keys}
use Rattle.sheet_uses.proofs.key_calls.bodies.+keys.Given as goal

abbrev pub invariant-push_body_keys-loop-instr : goal.invariant-push_body_keys-loop-instr
invariant-push_body_keys-loop-instr l =
    all_in (map instr_keys (drop l.instr-index l.all)) l.scope l.found
    ≡ all_in (map instr_keys l.all) l.scope l.fn.found

abbrev pub invariant-push_whens-loop-when : goal.invariant-push_whens-loop-when
invariant-push_whens-loop-when l =
    all_in (map when_keys (drop l.when-index l.all)) l.scope l.found
    ≡ all_in (map when_keys l.all) l.scope l.fn.found

abbrev pub invariant-push_bounds-loop-bound : goal.invariant-push_bounds-loop-bound
invariant-push_bounds-loop-bound l =
    all_in (map bound_keys (drop l.bound-index l.all)) l.scope l.found
    ≡ all_in (map bound_keys l.all) l.scope l.fn.found
