use Rattle.xquery_syntax.proofs.ParsedLemmas.{answered_once}
use Rattle.xquery_syntax.proofs.laws.answers_one.Goals as goal

pub returns : goal.returns
returns c = λ text k a b x y p q. answered_once k text a b x y p q
