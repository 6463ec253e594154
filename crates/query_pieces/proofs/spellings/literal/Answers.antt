use Rattle.query_pieces.proofs.SpellingLemmas.{literal_says}
use Rattle.query_pieces.proofs.spellings.literal.Goals as goal

pub returns-in-Some : goal.returns-in-Some
returns-in-Some c = literal_says _ _ _ _ c.in_ok-inside.ensures c.as_str.ensures.chars
    (rw c.in-Some.is at c.in_ok-said.ensures)
