use Rattle.pattern_syntax.proofs.NestLemmas.{pattern_nests}
use Rattle.pattern_syntax.proofs.TestLemmas.{tests_flat}
use Rattle.pattern_syntax.proofs.laws.a_pattern_nests_as_its_predicates.Goals as goal

pub returns-clause-parts : goal.returns-clause-parts
returns-clause-parts c = pattern_nests

pub returns-clause-tests : goal.returns-clause-tests
returns-clause-tests c = tests_flat
