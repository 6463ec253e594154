use Rattle.std.proofs.Common.{[]}
use Rattle.expr_keys.specs.declared.productions.Nonterminal.TheVariants.{WholeType}
use Rattle.raw_tokens.proofs.Derive.{tokens_derive as law}
use Rattle.raw_tokens.proofs.tokens_spell_type.Goals as goal

pub returns : goal.returns
returns c = λ l v e. law l WholeType v [] e
