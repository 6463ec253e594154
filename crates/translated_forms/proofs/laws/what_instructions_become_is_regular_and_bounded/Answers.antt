use Rattle.translated_forms.proofs.BoundsLemmas.{bodies_bounded}
use Rattle.translated_forms.proofs.laws.what_instructions_become_is_regular_and_bounded.Goals as goal

pub returns : goal.returns
returns c = λ t tested keys tests. bodies_bounded t tested keys tests
