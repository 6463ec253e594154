use Rattle.std.proofs.Common.{◌≡◌, ◌++◌, take}
use Rattle.name_scopes.proofs.scopes.NamespaceScope.push_each.Given as goal

abbrev pub invariant-loop-binding : goal.invariant-loop-binding
invariant-loop-binding l = l.self ≡ l.initial.self ++ take l.binding-index l.bindings
