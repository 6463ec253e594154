use Rattle.pattern_paths.proofs.Regular.{alternatives_regular, pattern_regular}
use Rattle.pattern_paths.proofs.properties.tests_of_patterns_are_regular.Goals as goal

pub returns-clause-one : goal.returns-clause-one
returns-clause-one c = pattern_regular

pub returns-clause-any : goal.returns-clause-any
returns-clause-any c = alternatives_regular
