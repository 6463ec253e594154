use Rattle.std.proofs.Common.{◌≡◌, ◌++◌, drop}
use Rattle.name_scopes.specs.Places.{bindings_of}
use Rattle.doc_writer.specs.Written.{declarations}
use Rattle.doc_writer.proofs.writers.push_declarations.Given as goal

abbrev pub invariant-loop-entry : goal.invariant-loop-entry
invariant-loop-entry l = l.out ++ declarations (bindings_of (drop l.entry-index l.entries)) ≡ l.initial.out ++ declarations (bindings_of l.entries)
