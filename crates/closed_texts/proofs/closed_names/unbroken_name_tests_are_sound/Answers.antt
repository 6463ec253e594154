use Rattle.closed_texts.proofs.ClosedNames.Tests.{tests_so}
use Rattle.closed_texts.proofs.closed_names.unbroken_name_tests_are_sound.Goals as goal

pub returns-clause-sound : goal.returns-clause-sound
returns-clause-sound c = λ bound text u f. (tests_so bound text u f).sound

pub returns-clause-declared : goal.returns-clause-declared
returns-clause-declared c = λ bound text u f. (tests_so bound text u f).declared
