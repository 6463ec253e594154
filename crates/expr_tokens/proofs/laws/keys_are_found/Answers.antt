use Rattle.expr_tokens.proofs.KeyLemmas.{word_found, symbol_found, word_text, symbol_text}
use Rattle.expr_tokens.proofs.laws.keys_are_found.Goals as goal

pub returns-clause-words : goal.returns-clause-words
returns-clause-words c = word_found

pub returns-clause-symbols : goal.returns-clause-symbols
returns-clause-symbols c = symbol_found

pub returns-clause-word_text : goal.returns-clause-word_text
returns-clause-word_text c = word_text

pub returns-clause-symbol_text : goal.returns-clause-symbol_text
returns-clause-symbol_text c = symbol_text
