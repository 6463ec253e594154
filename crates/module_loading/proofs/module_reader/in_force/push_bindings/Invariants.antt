use Rattle.std.proofs.Common.{◌≡◌, ◌++◌, drop}
use Rattle.module_loading.proofs.module_reader.in_force.push_bindings.Given as goal

abbrev pub invariant-loop-binding : goal.invariant-loop-binding
invariant-loop-binding l = l.all ++ drop l.binding-index l.bindings ≡ l.initial.all ++ l.bindings
