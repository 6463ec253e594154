use Rattle.std.proofs.Common.{◌≡◌, ◌++◌, drop}
use Rattle.sheet_uses.specs.KeyCalls.Called.{called_codes}
use Rattle.sheet_uses.proofs.key_calls.called.push_called.Given as goal

abbrev pub invariant-loop-one : goal.invariant-loop-one
invariant-loop-one l =
    l.codes ++ called_codes l.functions (drop l.one-index l.uses)
    ≡ l.fn.codes ++ called_codes l.functions l.uses
