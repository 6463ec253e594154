use Rattle.std.proofs.Common.{refl}
use Rattle.doc_reader.proofs.GroundReads.{unfinished}
use Rattle.doc_reader.proofs.readers.Reader.finish.Goals as goal

pub returns-then-not-is_rooted : goal.returns-then-not-is_rooted
returns-then-not-is_rooted c = (unfinished c.args.self.frames.items c.args.self.scope _ _ _ c.args.self.text c.if-not-is_rooted.ensures, refl)
