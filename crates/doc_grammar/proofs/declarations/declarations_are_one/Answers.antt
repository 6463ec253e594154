use Rattle.std.proofs.Common.{refl}
use Rattle.doc_grammar.specs.Declarations.{in_document}
use Rattle.doc_grammar.proofs.DeclaredReads.{declared_one}
use Rattle.doc_grammar.proofs.Counts.{declared_lists}
use Rattle.doc_grammar.proofs.declarations.declarations_are_one.Goals as goal

pub returns-clause-some : goal.returns-clause-some
returns-clause-some c = λ bytes t d. (in_document d.1, (d.0, (d.1, refl)))

pub returns-clause-one : goal.returns-clause-one
returns-clause-one c = declared_one

pub returns-clause-each : goal.returns-clause-each
returns-clause-each c = declared_lists
