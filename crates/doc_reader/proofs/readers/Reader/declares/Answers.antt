use Rattle.std.proofs.Common.{sym}
use Rattle.doc_reader.proofs.GroundReads.{not_blank}
use Rattle.doc_reader.proofs.readers.Reader.declares.Goals as goal

pub returns-then-not-is_blank : goal.returns-then-not-is_blank
returns-then-not-is_blank c = sym (not_blank c.args.self.now.frames.items c.args.self.now.scope _ _ _ _ c.if-not-is_blank.ensures)
