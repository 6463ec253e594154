use Rattle.std.proofs.Common.{[]}
use Rattle.expr_keys.specs.declared.productions.Nonterminal.TheVariants.{Whole}
use Rattle.expr_grammar.proofs.Run.{spells_runs}
use Rattle.raw_tokens.proofs.Derive.{tokens_derive}
use Rattle.raw_tokens.proofs.tokens_are_read_back.Goals as goal

pub returns : goal.returns
returns c = λ l v e. spells_runs (tokens_derive l Whole v [] e)
