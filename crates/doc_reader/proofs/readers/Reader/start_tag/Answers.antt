use Rattle.std.proofs.Common.{sym, ◌∙◌}
use Rattle.doc_reader.proofs.ReadLemmas.{ran_from}
use Rattle.doc_reader.proofs.ElementLemmas.{cannot_open, no_name, name_goes, if_ok}
use Rattle.doc_reader.proofs.readers.Reader.start_tag.Goals as goal

pub returns-then-not-may_open-clause-ran : goal.returns-then-not-may_open-clause-ran
returns-then-not-may_open-clause-ran c =
    cannot_open _ _ _ _ _ _ c.in_ok-flush.ensures.opened c.in_ok-flush.ensures.source (sym c.if-not-may_open.true ∙ c.may_open.ensures) c.requires.no_slash c.requires.no_bang c.requires.no_question (rw c.in_ok-flush.ensures.source at c.stop_before_name.ensures)

pub returns-in_default-clause-ran : goal.returns-in_default-clause-ran
returns-in_default-clause-ran c =
    no_name _ _ _ _ _ c.in_ok-flush.ensures.opened (sym c.if-not-may_open.false ∙ c.may_open.ensures) c.requires.no_slash c.requires.no_bang c.requires.no_question (rw c.in_ok-flush.ensures.source at c.in_default.ensures.name)

pub returns-clause-ran : goal.returns-clause-ran
returns-clause-ran c =
    let named = name_goes _ _ _ _ _ _ c.in_ok-flush.ensures.opened (sym c.if-not-may_open.false ∙ c.may_open.ensures) (rw c.in_ok-flush.ensures.source at c.in-Some.ensures.name) in
    if_ok c.named.result c.named.ensures.ran (λ s ran. ran_from _ _ _ _ s named ran)
