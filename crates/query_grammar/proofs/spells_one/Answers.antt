use Rattle.query_grammar.proofs.Run.{query_one}
use Rattle.query_grammar.proofs.spells_one.Goals as goal

pub returns : goal.returns
returns c = λ ts a b x y. query_one x y
