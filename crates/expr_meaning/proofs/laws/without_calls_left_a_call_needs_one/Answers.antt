use Rattle.std.proofs.Common.{refl}
use Rattle.expr_meaning.proofs.laws.without_calls_left_a_call_needs_one.Goals as goal

pub returns : goal.returns
returns c = λ run globals name args k f bound e h. rw (e, h) refl
