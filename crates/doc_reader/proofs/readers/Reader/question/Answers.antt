use Rattle.std.proofs.Common.{sym, ◌∙◌}
use Rattle.std.specs.Str.{chars}
use Rattle.doc_reader.proofs.ReadLemmas.{ran_from}
use Rattle.doc_reader.proofs.ElementLemmas.{if_ok, takes_next}
use Rattle.doc_reader.proofs.MarkupReads.{no_target, no_target_name, to_target, target_ends}
use Rattle.doc_reader.proofs.GroundReads.{declaration_goes}
use Rattle.doc_reader.proofs.readers.Reader.question.Goals as goal

pub returns-in_default-clause-ran : goal.returns-in_default-clause-ran
returns-in_default-clause-ran c = no_target _ _ _ _ _ (takes_next 63 c.eat-question.result _ _ c.requires c.eat-question.ensures) c.in_default.ensures.name

pub returns-then-declares-clause-ran : goal.returns-then-declares-clause-ran
returns-then-declares-clause-ran c =
    declaration_goes c.xml_declaration-step.result _ _ _ _ _ (chars c.in-Some.target.now) _ _ c.args.self.now.frames.items c.begin.new.self.frames.items c.args.self.now.scope c.begin.new.self.scope _ _ _ _ _ _
    (sym c.if-declares.ensures) (takes_next 63 c.eat-question.result _ _ c.requires c.eat-question.ensures) c.in-Some.ensures.name c.xml_declaration-step.ensures.reads
    c.begin.ensures.text c.begin.ensures.frames c.begin.ensures.scope c.begin.ensures.level c.begin.ensures.kids c.begin.ensures.declared c.begin.ensures.source

pub returns-then-not-is_target-clause-ran : goal.returns-then-not-is_target-clause-ran
returns-then-not-is_target-clause-ran c =
    to_target _ _ (chars c.in-Some.target.now) _ _ _ (takes_next 63 c.eat-question.result _ _ c.requires c.eat-question.ensures) c.in-Some.ensures.name
    ∙ no_target_name _ (chars c.in-Some.target.now) _ _ (target_ends c.in-Some.ensures.name) (sym c.if-declares.ensures) (sym c.if-not-is_target.ensures)

pub instruction-requires-clause-ends : goal.instruction-requires-clause-ends
instruction-requires-clause-ends c = target_ends c.in-Some.ensures.name

pub returns-clause-ran : goal.returns-clause-ran
returns-clause-ran c =
    if_ok c.instruction.result c.instruction.ensures.ran (λ s ran.
    ran_from _ _ _ _ s (to_target _ _ (chars c.in-Some.target.now) _ _ _ (takes_next 63 c.eat-question.result _ _ c.requires c.eat-question.ensures) c.in-Some.ensures.name) ran)
