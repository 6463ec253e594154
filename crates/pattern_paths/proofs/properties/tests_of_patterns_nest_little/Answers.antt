use Rattle.pattern_paths.proofs.Nesting.{alternatives_nest, pattern_nests}
use Rattle.pattern_paths.proofs.properties.tests_of_patterns_nest_little.Goals as goal

pub returns-clause-one : goal.returns-clause-one
returns-clause-one c = pattern_nests

pub returns-clause-any : goal.returns-clause-any
returns-clause-any c = alternatives_nest
