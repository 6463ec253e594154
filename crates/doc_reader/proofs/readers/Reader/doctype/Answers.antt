use Rattle.std.proofs.Common.{sym}
use Rattle.doc_reader.proofs.GroundReads.{doctype_fails, doctype_goes}
use Rattle.doc_reader.proofs.readers.Reader.doctype.Goals as goal

pub returns-then-not-may_type-clause-ran : goal.returns-then-not-may_type-clause-ran
returns-then-not-may_type-clause-ran c =
    doctype_fails _ _ c.args.self.now.frames.items c.args.self.now.scope _ _ _ c.requires.ground c.requires.no_comment (sym c.if-not-may_type.ensures)

pub returns-clause-ran : goal.returns-clause-ran
returns-clause-ran c =
    doctype_goes c.doctype-step.result _ _ _ _ c.args.self.now.frames.items c.args.self.now.scope _ _ _ c.requires.ground c.requires.no_comment (sym c.if-not-may_type.ensures) c.doctype-step.ensures.reads c.clear.ensures
