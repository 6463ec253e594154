use Rattle.query_texts.proofs.OneLemmas.{text_one}
use Rattle.query_texts.proofs.laws.spells_one.Goals as goal

pub returns : goal.returns
returns c = λ text a b x y. text_one text a b x y
