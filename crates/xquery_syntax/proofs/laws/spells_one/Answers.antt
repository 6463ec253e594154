use Rattle.xquery_syntax.proofs.ParsedLemmas.{spelled_once}
use Rattle.xquery_syntax.proofs.laws.spells_one.Goals as goal

pub returns : goal.returns
returns c = spelled_once
