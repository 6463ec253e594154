use Rattle.std.proofs.Common.{◌≡◌, length}
use Rattle.printed_laws.specs.QueryRaws.Prologs.{same_rules}
use Rattle.query_printer.proofs.printable_queries.rules.same_rules.Given as goal

abbrev pub invariant-loop-left : goal.invariant-loop-left
invariant-loop-left l = same_rules l.left l.right ≡ same_rules l.all l.others

abbrev pub decreases-loop-left : goal.decreases-loop-left
decreases-loop-left l = length l.left
