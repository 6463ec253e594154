use Rattle.std.proofs.Common.{sym, ◌∙◌}
use Rattle.query_pieces.proofs.NameLemmas.{name_alone}
use Rattle.query_pieces.proofs.scans.Scan.name.Goals as goal

pub returns : goal.returns
returns c = name_alone _ _ _ _ (sym c.begins_name.ensures
    ∙ c.if-not-begins_name.false) c.take_run-first.ensures.run c.take_run-first.ensures.rest
    c.if-colon.ensures.0 c.if-colon.ensures.1
