use Rattle.std.proofs.Common.{◌≡◌, vec_len, length, arith, sym, ◌∙◌}
use Rattle.doc_reader.specs.Frames.{base_of}
use Rattle.doc_reader.proofs.FrameLemmas.{deep_stop}
use Rattle.doc_reader.proofs.readers.Reader.stop_before_name.Goals as goal

pub returns-in-Some : goal.returns-in-Some
returns-in-Some c =
    let r = c.args.self.now in
    let size : vec_len r.frames ≡ length r.frames.items = omega arith in
    let filled = rw c.if-not-is_empty.true at c.is_empty.ensures in
    deep_stop r.source c.in-Some.c r.frames.items r.scope (base_of r) c.in-Some.ensures (sym c.starts_name.ensures ∙ c.if-starts_name.true) (rw size at filled)
