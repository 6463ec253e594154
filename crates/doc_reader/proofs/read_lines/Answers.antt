use Rattle.doc_reader.proofs.TextLemmas.{left_fits}
use Rattle.doc_reader.proofs.read_lines.Goals as goal

pub overflow_sub-taken : goal.overflow_sub-taken
overflow_sub-taken c =
    let f = rw c.in-Err.is at c.in_ok-whole.ensures in
    left_fits _ _ f.0 _ _ _ c.new.ensures c.left.ensures f.1 f.2
