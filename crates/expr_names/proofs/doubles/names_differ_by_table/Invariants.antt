use Rattle.std.proofs.Common.{◌≡◌, drop}
use Rattle.expr_names.specs.Doubles.{names_differ}
use Rattle.expr_names.proofs.TableLemmas.{are_new}
use Rattle.expr_names.proofs.doubles.names_differ_by_table.Given as goal

abbrev pub invariant-loop-name : goal.invariant-loop-name
invariant-loop-name l = are_new l.seen (drop l.name-index l.names) ≡ names_differ l.names
