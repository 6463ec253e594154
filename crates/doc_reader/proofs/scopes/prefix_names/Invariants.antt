use Rattle.std.proofs.Common.{◌≡◌, ◌++◌, drop, map}
use Rattle.doc_grammar.specs.Scopes.{prefix_name}
use Rattle.doc_reader.proofs.scopes.prefix_names.Given as goal

abbrev pub invariant-loop-binding : goal.invariant-loop-binding
invariant-loop-binding l = l.names ++ map prefix_name (drop l.binding-index l.bindings) ≡ map prefix_name l.bindings
