use Rattle.std.proofs.Common.{sym, ◌∙◌}
use Rattle.query_pieces.proofs.FrontLemmas.{run_is}
use Rattle.query_pieces.proofs.scans.Scan.take_run.Goals as goal

pub returns-clause-run : goal.returns-clause-run
returns-clause-run g c = (run_is g.C.Class.class _ _ _ (sym c.self.view_is ∙ c.take_run.ensures.run)
    c.take_run.ensures.passes c.take_run.ensures.ends).0

pub returns-clause-rest : goal.returns-clause-rest
returns-clause-rest g c = (run_is g.C.Class.class _ _ _ (sym c.self.view_is ∙ c.take_run.ensures.run)
    c.take_run.ensures.passes c.take_run.ensures.ends).1
