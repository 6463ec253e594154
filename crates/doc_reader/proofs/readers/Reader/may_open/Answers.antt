use Rattle.std.proofs.Common.{◌≡◌, vec_len, length, arith, nat_lt, sym, ap, ◌∙◌}
use Rattle.doc_grammar.specs.Document.{limit}
use Rattle.doc_reader.specs.Frames.{level_of}
use Rattle.doc_reader.proofs.FrameLemmas.{inner_may_open}
use Rattle.doc_reader.proofs.readers.Reader.may_open.Goals as goal

pub returns-else-is_empty : goal.returns-else-is_empty
returns-else-is_empty c =
    let r = c.args.self.now in
    let size : vec_len r.frames ≡ length r.frames.items = omega arith in
    let same : c.len.result ≡ length r.frames.items = omega arith in
    ap (λ n. nat_lt n limit) same ∙ sym (inner_may_open r.frames.items r.scope (level_of r.level) r.kids r.declared (rw size at c.if-is_empty.ensures))
