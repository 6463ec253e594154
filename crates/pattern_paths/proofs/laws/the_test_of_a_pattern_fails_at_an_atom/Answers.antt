use Rattle.pattern_paths.proofs.Alternatives.{atom_fails}
use Rattle.pattern_paths.proofs.laws.the_test_of_a_pattern_fails_at_an_atom.Goals as goal

pub returns : goal.returns
returns c = λ q p u env a h k. atom_fails q env a h p u.whole k
