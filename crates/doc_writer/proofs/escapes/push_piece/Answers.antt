use Rattle.std.proofs.Common.{arith}
use Rattle.doc_writer.proofs.RunLemmas.{rest_within, seam_of, front_is_run, written_front}
use Rattle.xt_names.proofs.ListLemmas.{front_of_range}
use Rattle.doc_writer.proofs.escapes.push_piece.Goals as goal

pub range-requires-clause-end_boundary : goal.range-requires-clause-end_boundary
range-requires-clause-end_boundary g c =
    let within = rest_within g.E.Escape.written _ _ c.behind_plain-rest.ensures in
    seam_of g.E.Escape.written _ _ _ c.behind_plain-rest.ensures (omega (arith, within)) c.behind_plain-rest.utf8

pub returns-clause-written : goal.returns-clause-written
returns-clause-written g c =
    let within = rest_within g.E.Escape.written _ _ c.behind_plain-rest.ensures in
    let run = front_is_run g.E.Escape.written _ _ _ _ c.behind_plain-rest.ensures (omega (arith, within)) (front_of_range _ _ _ c.range.ensures.value) c.range.utf8 in
    written_front g.E.Escape.written _ _ _ _ _ _ _ c.behind_plain-rest.ensures run c.in_ok-push_str.ensures.ok c.in_ok-left.ensures.written
