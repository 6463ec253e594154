use Rattle.std.proofs.Common.{◌≡◌, drop, map}
use Rattle.xt_forms.specs.Regular.{every}
use Rattle.closed_sheets.specs.Instrs.{is_good_instr, is_good_when, is_good_bound}
use Rattle.closed_sheets.proofs.instrs.+good.Given as goal

abbrev pub invariant-is_good_body-loop-instr : goal.invariant-is_good_body-loop-instr
invariant-is_good_body-loop-instr l =
    every (map is_good_instr (drop l.instr-index l.all)) ≡ every (map is_good_instr l.all)

abbrev pub invariant-are_good_whens-loop-when : goal.invariant-are_good_whens-loop-when
invariant-are_good_whens-loop-when l =
    every (map is_good_when (drop l.when-index l.all)) ≡ every (map is_good_when l.all)

abbrev pub invariant-are_good_bounds-loop-bound : goal.invariant-are_good_bounds-loop-bound
invariant-are_good_bounds-loop-bound l =
    every (map is_good_bound (drop l.bound-index l.all)) ≡ every (map is_good_bound l.all)
