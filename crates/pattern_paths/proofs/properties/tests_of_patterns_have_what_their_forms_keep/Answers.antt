use Rattle.pattern_paths.specs.Built.{Passes}
use Rattle.pattern_paths.proofs.Parts.{alternatives_kept, pattern_kept}
use Rattle.pattern_paths.proofs.properties.tests_of_patterns_have_what_their_forms_keep.Goals as goal

pub returns-clause-one : goal.returns-clause-one
returns-clause-one c = λ f t k p h. pattern_kept (Passes f) (Passes t) k p h

pub returns-clause-any : goal.returns-clause-any
returns-clause-any c = λ f t k ps h. alternatives_kept (Passes f) (Passes t) k ps h
