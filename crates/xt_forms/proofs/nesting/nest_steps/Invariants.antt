use Rattle.std.proofs.Common.{◌≡◌, drop, map, min, max}
use Rattle.xt_forms.specs.Nest.{step_nest_of}
use Rattle.xt_forms.proofs.nesting.nest_steps.Given as goal
use Rattle.xt_names.specs.Lists.{greatest}

abbrev pub invariant-loop-step : goal.invariant-loop-step
invariant-loop-step l =
    max l.most (min (greatest (map step_nest_of (drop l.step-index l.all))) 0xFFFF_FFFF) ≡ min (greatest (map step_nest_of l.all)) 0xFFFF_FFFF
