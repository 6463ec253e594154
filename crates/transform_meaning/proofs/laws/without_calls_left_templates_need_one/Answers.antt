use Rattle.std.proofs.Common.{refl}
use Rattle.transform_meaning.proofs.laws.without_calls_left_templates_need_one.Goals as goal

pub returns-clause-rules : goal.returns-clause-rules
returns-clause-rules c = λ run globals passed env k. refl

pub returns-clause-named : goal.returns-clause-named
returns-clause-named c = λ run globals passed place env k. refl
