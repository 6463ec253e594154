use Rattle.std.proofs.Common.{◌≡◌, drop, map}
use Rattle.sheet_uses.specs.Exprs.{all_in}
use Rattle.sheet_closure.specs.Uses.{function_uses}
use Rattle.sheet_closure.proofs.uses.push_functions.Given as goal

abbrev pub invariant-loop-function : goal.invariant-loop-function
invariant-loop-function l =
    all_in (map function_uses (drop l.function-index l.all)) l.scope l.found
    ≡ all_in (map function_uses l.all) l.scope l.fn.found
