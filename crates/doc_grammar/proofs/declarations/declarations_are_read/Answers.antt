use Rattle.doc_grammar.proofs.DeclaredReads.{found_declared, declared_found}
use Rattle.doc_grammar.proofs.declarations.declarations_are_read.Goals as goal

pub returns-clause-found : goal.returns-clause-found
returns-clause-found c = found_declared

pub returns-clause-all : goal.returns-clause-all
returns-clause-all c = declared_found
