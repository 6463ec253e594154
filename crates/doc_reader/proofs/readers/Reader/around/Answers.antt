use Rattle.doc_reader.proofs.GroundReads.{around_fails, around_ran, spaces_fall}
use Rattle.doc_reader.proofs.readers.Reader.around.Goals as goal

pub returns-then-not-spaces-clause-ran : goal.returns-then-not-spaces-clause-ran
returns-then-not-spaces-clause-ran c =
    around_fails _ _ _ c.args.self.now.frames.items c.args.self.now.scope _ _ _ c.requires.ground c.requires.some c.requires.no_markup c.if-not-spaces.ensures.spaces c.if-not-spaces.ensures.ends

pub returns-clause-ran : goal.returns-clause-ran
returns-clause-ran c =
    around_ran _ _ _ _ _ c.args.self.now.frames.items c.begin.new.self.frames.items c.args.self.now.scope c.begin.new.self.scope _ _ _ _ _ _ c.requires.ground c.if-not-spaces.ensures.spaces
    c.begin.ensures.text c.begin.ensures.frames c.begin.ensures.level c.begin.ensures.kids c.begin.ensures.declared c.begin.ensures.source

pub returns-clause-falls : goal.returns-clause-falls
returns-clause-falls c = spaces_fall _ _ _ c.if-not-spaces.ensures.spaces c.begin.ensures.source
