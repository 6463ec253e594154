use Rattle.query_pieces.proofs.FrontLemmas.{eats}
use Rattle.query_pieces.proofs.scans.Scan.eat.Goals as goal

pub returns : goal.returns
returns c = rw c.self.view_is at (eats c.args.c _ _ c.eat.result c.eat.ensures)
