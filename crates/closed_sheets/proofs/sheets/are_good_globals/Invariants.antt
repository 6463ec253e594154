use Rattle.std.proofs.Common.{◌≡◌, drop, map}
use Rattle.xt_forms.specs.Regular.{every}
use Rattle.closed_sheets.specs.Instrs.{is_good_bound}
use Rattle.closed_sheets.proofs.sheets.are_good_globals.Given as goal

abbrev pub invariant-loop-global : goal.invariant-loop-global
invariant-loop-global l =
    every (map (λ g. is_good_bound g.bound) (drop l.global-index l.all))
    ≡ every (map (λ g. is_good_bound g.bound) l.all)
