use Rattle.std.proofs.Common.{◌≡◌, drop, map}
use Rattle.sheet_uses.specs.Exprs.{all_in}
use Rattle.sheet_uses.specs.Values.{sort_uses}
use Rattle.sheet_uses.proofs.values.push_sorts.Given as goal

abbrev pub invariant-loop-sort : goal.invariant-loop-sort
invariant-loop-sort l =
    all_in (map sort_uses (drop l.sort-index l.sorts)) l.scope l.found
    ≡ all_in (map sort_uses l.sorts) l.scope l.fn.found
