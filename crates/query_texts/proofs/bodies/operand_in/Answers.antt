use Rattle.std.proofs.Common.{sym, subst}
use Rattle.query_reader.proofs.QuerySteps.StepLemmas.{at_want, tracks_now}
use Rattle.query_pieces.specs.Readings.{Reads}
use Rattle.query_texts.proofs.bodies.operand_in.Goals as goal

pub returns-then-asks : goal.returns-then-asks
returns-then-asks c = λ p s k m ts g t q x.
    subst (λ z. Reads z p t q)
    (sym (at_want _ m _ g.mode (c.wants_operand.ensures g.frames ts (tracks_now g.holds)))) x
