use Rattle.xpath_lex.proofs.scans.Scan.eat.Goals as goal

pub returns : goal.returns
returns c = rw c.self.view_is at c.eat.ensures
