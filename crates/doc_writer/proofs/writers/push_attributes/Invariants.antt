use Rattle.std.proofs.Common.{◌≡◌, ◌++◌, drop}
use Rattle.doc_writer.specs.Written.{written_attributes}
use Rattle.doc_writer.proofs.writers.push_attributes.Given as goal

abbrev pub invariant-loop-attribute : goal.invariant-loop-attribute
invariant-loop-attribute l =
    l.out ++ written_attributes l.left (drop l.attribute-index l.attributes) ≡ l.initial.out ++ written_attributes l.initial.left l.attributes
