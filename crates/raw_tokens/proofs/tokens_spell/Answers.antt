use Rattle.std.proofs.Common.{[]}
use Rattle.expr_keys.specs.declared.productions.Nonterminal.TheVariants.{Whole}
use Rattle.raw_tokens.proofs.Derive.{tokens_derive as law}
use Rattle.raw_tokens.proofs.tokens_spell.Goals as goal

pub returns : goal.returns
returns c = λ l v e. law l Whole v [] e
