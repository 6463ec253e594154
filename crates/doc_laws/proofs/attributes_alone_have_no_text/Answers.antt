use Rattle.doc_laws.proofs.ItemTexts.{items_declared, items_bare}
use Rattle.doc_laws.proofs.attributes_alone_have_no_text.Goals as goal

pub returns-clause-declared : goal.returns-clause-declared
returns-clause-declared c = items_declared

pub returns-clause-bare : goal.returns-clause-bare
returns-clause-bare c = items_bare
