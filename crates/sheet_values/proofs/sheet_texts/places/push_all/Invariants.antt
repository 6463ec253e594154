use Rattle.std.proofs.Common.{◌≡◌, ◌++◌, drop}
use Rattle.sheet_values.proofs.sheet_texts.places.push_all.Given as goal

abbrev pub invariant-loop-binding : goal.invariant-loop-binding
invariant-loop-binding l = l.fn.all ++ l.bindings ≡ l.all ++ drop l.binding-index l.bindings
