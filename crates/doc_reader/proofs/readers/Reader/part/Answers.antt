use Rattle.doc_reader.proofs.ReadLemmas.{ran_from}
use Rattle.doc_reader.proofs.ElementLemmas.{if_ok}
use Rattle.doc_reader.proofs.MarkupReads.{opens_tag}
use Rattle.doc_reader.proofs.readers.Reader.part.Goals as goal

pub returns-then-eat-clause-ran : goal.returns-then-eat-clause-ran
returns-then-eat-clause-ran c = if_ok c.markup.result c.markup.ensures.ran (λ s ran. ran_from _ _ _ _ s (opens_tag _ _ _ _ c.if-eat.ensures) ran)
