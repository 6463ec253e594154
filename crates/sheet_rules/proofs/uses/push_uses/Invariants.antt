use Rattle.std.proofs.Common.{◌≡◌, drop}
use Rattle.sheet_rules.specs.Uses.{declared_uses}
use Rattle.sheet_rules.proofs.uses.push_uses.Given as goal

abbrev pub invariant-loop-one : goal.invariant-loop-one
invariant-loop-one l =
    declared_uses (drop l.one-index l.declarations) l.scope l.found
    ≡ declared_uses l.declarations l.scope l.fn.found
