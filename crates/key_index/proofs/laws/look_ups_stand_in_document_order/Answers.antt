use Rattle.key_index.proofs.AnswerLemmas.{answer_is}
use Rattle.key_index.proofs.laws.look_ups_stand_in_document_order.Goals as goal

pub returns : goal.returns
returns c = answer_is
