use Rattle.std.proofs.Common.{sym, ap, ◌∙◌}
use Rattle.doc_grammar.specs.Machine.{bang}
use Rattle.xml_source.specs.Reading.{reads}
use Rattle.doc_reader.specs.Frames.{open_in}
use Rattle.doc_reader.proofs.ReadLemmas.{ran_from}
use Rattle.doc_reader.proofs.ElementLemmas.{if_ok, takes_next}
use Rattle.doc_reader.proofs.MarkupReads.{to_bang, to_comment}
use Rattle.doc_reader.proofs.readers.Reader.bang.Goals as goal

pub returns-then-eat-clause-ran : goal.returns-then-eat-clause-ran
returns-then-eat-clause-ran c =
    if_ok c.comment.result c.comment.ensures.ran (λ s ran.
    ran_from _ _ _ _ s (to_bang _ _ _ _ (takes_next 33 c.eat-bang.result _ _ c.requires c.eat-bang.ensures) ∙ to_comment _ _ _ _ c.if-eat.ensures) ran)

pub returns-then-is_empty-clause-ran : goal.returns-then-is_empty-clause-ran
returns-then-is_empty-clause-ran c =
    ran_from _ _ _ _ c.doctype.result
    (to_bang _ _ _ _ (takes_next 33 c.eat-bang.result _ _ c.requires c.eat-bang.ensures) ∙ ap (λ x. reads x (bang c.args.self.now.text (open_in c.args.self.now))) (sym c.if-eat.ensures.0)) c.doctype.ensures.ran

pub returns-clause-ran : goal.returns-clause-ran
returns-clause-ran c =
    if_ok c.section.result c.section.ensures.ran (λ s ran.
    ran_from _ _ _ _ s
    (to_bang _ _ _ _ (takes_next 33 c.eat-bang.result _ _ c.requires c.eat-bang.ensures) ∙ ap (λ x. reads x (bang c.args.self.now.text (open_in c.args.self.now))) (sym c.if-eat.ensures.0)) ran)
