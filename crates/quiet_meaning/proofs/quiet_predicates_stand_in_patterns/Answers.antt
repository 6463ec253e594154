use Rattle.quiet_meaning.proofs.FormLemmas.{pattern_predicate}
use Rattle.quiet_meaning.proofs.quiet_predicates_stand_in_patterns.Goals as goal

pub returns : goal.returns
returns c = pattern_predicate
