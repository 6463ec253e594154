use Rattle.std.proofs.Common.{sym, ap, ◌∙◌}
use Rattle.command_words.specs.Texts.{are_different}
use Rattle.command_words.proofs.DocumentLemmas.{documents_refused, documents_given}
use Rattle.command_words.proofs.documents.documents_of.Goals as goal

pub returns-then-not-branch : goal.returns-then-not-branch
returns-then-not-branch c =
    documents_refused c.args.files.now c.in_ok-documents.documents c.in_ok-documents.ensures
    (sym (c.in_ok-are_different.ensures ∙ ap are_different c.as_slice.ensures) ∙ c.if-not-branch.true)

pub returns : goal.returns
returns c =
    documents_given c.args.files.now c.in_ok-documents.documents c.if-files-gt-MOST_DOCUMENTS.false c.in_ok-documents.ensures
    (sym (c.in_ok-are_different.ensures ∙ ap are_different c.as_slice.ensures) ∙ c.if-not-branch.false)
