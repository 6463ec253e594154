use Rattle.doc_reader.proofs.ReadLemmas.{ran_from}
use Rattle.doc_reader.proofs.ElementLemmas.{slash_goes, if_ok}
use Rattle.doc_reader.proofs.readers.Reader.open.Goals as goal

pub returns-then-eat-clause-ran : goal.returns-then-eat-clause-ran
returns-then-eat-clause-ran c =
    if_ok c.open_empty.result c.open_empty.ensures.ran (λ s ran. ran_from _ _ _ _ s (slash_goes _ _ _ _ c.if-eat.ensures) ran)
