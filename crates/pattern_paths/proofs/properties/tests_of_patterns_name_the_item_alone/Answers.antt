use Rattle.pattern_paths.proofs.Names.{alternatives_names, pattern_names}
use Rattle.pattern_paths.proofs.properties.tests_of_patterns_name_the_item_alone.Goals as goal

pub returns-clause-one : goal.returns-clause-one
returns-clause-one c = pattern_names

pub returns-clause-any : goal.returns-clause-any
returns-clause-any c = alternatives_names
