use Rattle.std.proofs.Common.{sym, subst}
use Rattle.query_pieces.specs.Readings.{Reads}
use Rattle.query_texts.proofs.texts.operand_at.Goals as goal

pub returns-then-asks : goal.returns-then-asks
returns-then-asks c = λ p s k m ts h t q x.
    subst (λ z. Reads z p t q) (sym (c.wants.ensures k m ts h)) x
