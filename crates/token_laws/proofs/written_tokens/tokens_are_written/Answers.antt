use Rattle.std.proofs.Common.{[], refl}
use Rattle.token_laws.proofs.WrittenTokens.Forms.{printable_written}
use Rattle.token_laws.proofs.written_tokens.tokens_are_written.Goals as goal

pub returns : goal.returns
returns c = λ p e h f. (printable_written p e h).whole [] refl [] f (λ g. refl)
