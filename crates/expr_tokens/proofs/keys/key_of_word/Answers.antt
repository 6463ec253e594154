use Rattle.expr_tokens.proofs.KeyLemmas.{word_by_first}
use Rattle.expr_tokens.proofs.keys.key_of_word.Goals as goal

pub returns-in-Some : goal.returns-in-Some
returns-in-Some c = word_by_first _ _ _ _ c.chars.ensures.rest c.in-Some.ensures.steps.2 (rw c.words_by.ensures at c.key_in.ensures)
