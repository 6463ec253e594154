-- When two computations do the same.
use Rattle.expr_meaning.specs.Outcomes.Outcome.{OnEnds}
use Rattle.expr_meaning.specs.Outcomes.Follow.{Follows, Relation, any_code}

-- both end with the same value and the same next number, both fail, or both lack a call
abbrev pub same : Relation
same A P o p = Follows any_code o p × Follows any_code p o × OnEnds P o
