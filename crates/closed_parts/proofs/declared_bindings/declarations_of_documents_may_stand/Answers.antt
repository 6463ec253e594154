use Rattle.closed_parts.proofs.DeclaredBindings.Documents.{declared_good}
use Rattle.closed_parts.proofs.declared_bindings.declarations_of_documents_may_stand.Goals as goal

pub returns : goal.returns
returns c = declared_good
