use Rattle.std.proofs.Common.{◌≡◌, drop, map, min, max}
use Rattle.closed_sheets.specs.SheetForms.InstrNest.{most_behind, nested_of, body_nest_of, when_nest_of, bound_nest_of}
use Rattle.closed_sheets.proofs.sheet_forms.nesting.+nest.Given as goal
use Rattle.xt_names.specs.Lists.{greatest}

abbrev pub invariant-nest_body-loop-instr : goal.invariant-nest_body-loop-instr
invariant-nest_body-loop-instr g l =
    max l.most (min (most_behind l.before (map nested_of (drop l.instr-index l.all))) 0xFFFF_FFFF) ≡ min (body_nest_of l.all) 0xFFFF_FFFF

abbrev pub invariant-nest_whens-loop-when : goal.invariant-nest_whens-loop-when
invariant-nest_whens-loop-when g l =
    max l.most (min (greatest (map when_nest_of (drop l.when-index l.all))) 0xFFFF_FFFF) ≡ min (greatest (map when_nest_of l.all)) 0xFFFF_FFFF

abbrev pub invariant-nest_bounds-loop-bound : goal.invariant-nest_bounds-loop-bound
invariant-nest_bounds-loop-bound g l =
    max l.most (min (greatest (map bound_nest_of (drop l.bound-index l.all))) 0xFFFF_FFFF) ≡ min (greatest (map bound_nest_of l.all)) 0xFFFF_FFFF
