use Rattle.expr_tokens.proofs.KeyLemmas.{symbol_by_first}
use Rattle.expr_tokens.proofs.keys.key_of_symbol.Goals as goal

pub returns-in-Some : goal.returns-in-Some
returns-in-Some c = symbol_by_first _ _ _ _ c.chars.ensures.rest c.in-Some.ensures.steps.2 (rw c.symbols_by.ensures at c.key_in.ensures)
