use Rattle.std.proofs.Common.{◌≡◌, drop, map}
use Rattle.xt_forms.specs.Regular.{every}
use Rattle.sheet_expressions.specs.Uses.{is_key_use, is_use_arm}
use Rattle.sheet_expressions.proofs.uses.+uses.Given as goal

abbrev pub invariant-are_uses-loop-e : goal.invariant-are_uses-loop-e
invariant-are_uses-loop-e l =
    every (map is_key_use (drop l.e-index l.all)) ≡ every (map is_key_use l.all)

abbrev pub invariant-are_use_arms-loop-arm : goal.invariant-are_use_arms-loop-arm
invariant-are_use_arms-loop-arm l =
    every (map is_use_arm (drop l.arm-index l.all)) ≡ every (map is_use_arm l.all)
