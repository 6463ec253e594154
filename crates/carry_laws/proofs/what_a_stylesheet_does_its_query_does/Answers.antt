use Rattle.expr_meaning.specs.Outcomes.Follow.{any_code, there}
use Rattle.expr_meaning.proofs.OutcomesLemmas.Relations.{there_carries}
use Rattle.meaning_laws.specs.SoundValues.Sound.{IsSound}
use Rattle.meaning_laws.proofs.SoundFunctions.Kept.{values_kept}
use Rattle.carry_laws.proofs.Whole.{whole_carried}
use Rattle.carry_laws.proofs.what_a_stylesheet_does_its_query_does.Goals as goal

pub returns : goal.returns
returns c = λ w local p q programs x fits s e f seen k.
    whole_carried any_code (λ a b. tt) there there_carries IsSound values_kept w p q programs local
    (λ t h. h) x fits s e f seen k
