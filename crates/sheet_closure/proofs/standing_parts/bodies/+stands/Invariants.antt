use Rattle.std.proofs.Common.{◌≡◌, drop, map}
use Rattle.sheet_closure.specs.StandingParts.Bodies.{all_stand, all_given, instr_stands, when_stands, bound_stands}
use Rattle.sheet_closure.proofs.standing_parts.bodies.+stands.Given as goal

abbrev pub invariant-body_stands-loop-instr : goal.invariant-body_stands-loop-instr
invariant-body_stands-loop-instr l =
    all_stand (map instr_stands (drop l.instr-index l.all)) l.grouped
    ≡ all_stand (map instr_stands l.all) l.grouped

abbrev pub invariant-whens_stand-loop-when : goal.invariant-whens_stand-loop-when
invariant-whens_stand-loop-when l =
    all_stand (map when_stands (drop l.when-index l.all)) l.grouped
    ≡ all_stand (map when_stands l.all) l.grouped

abbrev pub invariant-all_given-loop-bound : goal.invariant-all_given-loop-bound
invariant-all_given-loop-bound l =
    all_given (map bound_stands (drop l.bound-index l.all)) l.grouped
    ≡ all_given (map bound_stands l.all) l.grouped
