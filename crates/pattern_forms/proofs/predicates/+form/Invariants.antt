use Rattle.std.proofs.Common.{◌≡◌, ◌≤◌, drop, take, map}
use Rattle.std.specs.List.{list_all}
use Rattle.quiet_meaning.specs.Quietly.{quietly_of, is_truth, is_predicate}
use Rattle.pattern_forms.specs.Kinds.{Tally}
use Rattle.pattern_forms.proofs.predicates.+form.Given as goal

abbrev pub invariant-any-loop-e : goal.invariant-any-loop-e
invariant-any-loop-e l = list_all is_truth (map quietly_of (drop l.e-index l.all)) ≡ list_all is_truth (map quietly_of l.all)

abbrev pub invariant-tested-loop-e : goal.invariant-tested-loop-e
invariant-tested-loop-e l = list_all is_predicate (map quietly_of (drop l.e-index l.tests)) ≡ list_all is_predicate (map quietly_of l.tests)

abbrev pub invariant-every-loop-e : goal.invariant-every-loop-e
invariant-every-loop-e l = Tally (map quietly_of (take l.e-index l.all)) l.seen.truths l.seen.allowed l.seen.numerics × (l.seen.numerics ≤ l.e-index)
