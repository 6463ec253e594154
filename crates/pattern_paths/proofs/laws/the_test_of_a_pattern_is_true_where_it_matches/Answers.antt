use Rattle.pattern_paths.proofs.Alternatives.{alternatives_tell}
use Rattle.pattern_paths.proofs.Law.{match_law}
use Rattle.pattern_paths.proofs.laws.the_test_of_a_pattern_is_true_where_it_matches.Goals as goal

pub returns-clause-one : goal.returns-clause-one
returns-clause-one c = λ q p u env n s h k. match_law q p env n k s h u.allowed u.whole

pub returns-clause-any : goal.returns-clause-any
returns-clause-any c = λ q ps u env n s h k. alternatives_tell q env n s h ps u k
