use Rattle.std.proofs.Common.{◌≡◌, drop, map}
use Rattle.sheet_uses.specs.Exprs.{all_in, binders_in}
use Rattle.sheet_uses.specs.Bodies.{instr_uses, bound_uses, when_uses, sources_in}
use Rattle.sheet_uses.proofs.bodies.+uses.Given as goal

abbrev pub invariant-push_body_uses-loop-instr : goal.invariant-push_body_uses-loop-instr
invariant-push_body_uses-loop-instr l =
    binders_in (map instr_uses (drop l.instr-index l.all)) l.inner l.found
    ≡ binders_in (map instr_uses l.all) l.scope l.fn.found

abbrev pub invariant-push_whens-loop-when : goal.invariant-push_whens-loop-when
invariant-push_whens-loop-when l =
    all_in (map when_uses (drop l.when-index l.all)) l.scope l.found
    ≡ all_in (map when_uses l.all) l.scope l.fn.found

abbrev pub invariant-push_bounds-loop-bound : goal.invariant-push_bounds-loop-bound
invariant-push_bounds-loop-bound l =
    sources_in (map bound_uses (drop l.bound-index l.all)) l.scope l.found
    ≡ sources_in (map bound_uses l.all) l.scope l.fn.found
