use Rattle.std.proofs.Common.{sym, ◌∙◌}
use Rattle.std.specs.Str.{chars}
use Rattle.xpath_lex.proofs.scans.Scan.take_run.Goals as goal

pub returns-clause-taken : goal.returns-clause-taken
returns-clause-taken g c = (chars c.take_run-run.result.now, sym c.self.view_is ∙ c.take_run-run.ensures.run, c.take_run-run.ensures.passes)

pub returns-clause-ends : goal.returns-clause-ends
returns-clause-ends g c = c.take_run-run.ensures.ends
