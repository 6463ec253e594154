use Rattle.std.proofs.Common.{◌≡◌, drop}
use Rattle.name_rules.specs.Faults.{first, earlier}
use Rattle.closed_queries.specs.PrologRules.Setters.{nothing_seen, setters_broken}
use Rattle.closed_queries.proofs.prolog_rules.setter_rules.broken_setter.Given as goal

abbrev pub invariant-loop-setter : goal.invariant-loop-setter
invariant-loop-setter l = earlier l.fault (first (setters_broken l.seen (drop l.setter-index l.setters))) ≡ first (setters_broken nothing_seen l.setters)
