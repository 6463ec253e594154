use Rattle.std.proofs.Common.{◌≡◌, length, vec_len, arith, refl}
use Rattle.doc_reader.specs.Frames.{base_of}
use Rattle.doc_reader.proofs.FrameLemmas.{inner_scope}
use Rattle.doc_reader.proofs.ElementLemmas.{first_scope}
use Rattle.doc_reader.proofs.readers.Reader.enter.Goals as goal

pub returns-in_ok-push-clause-scope : goal.returns-in_ok-push-clause-scope
returns-in_ok-push-clause-scope c =
    let r = c.args.self.now in
    let size : vec_len r.frames ≡ length r.frames.items = omega arith in
    first_scope r.frames.items r.scope _ _ (base_of r) _ _ refl (rw size at c.if-is_empty.ensures) c.truncate.ensures c.in_ok-push.ensures.ok c.in_ok-make.ensures.ok c.in_ok-uri.ensures.ok

pub returns-else-is_empty-clause-scope : goal.returns-else-is_empty-clause-scope
returns-else-is_empty-clause-scope c =
    let r = c.args.self.now in
    let size : vec_len r.frames ≡ length r.frames.items = omega arith in
    inner_scope r.frames.items r.scope (base_of r) (rw size at c.if-is_empty.ensures)
