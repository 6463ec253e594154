use Rattle.std.proofs.Common.{length}
use Rattle.std.specs.Str.{chars}
use Rattle.query_pieces.proofs.LiteralLemmas.{Keeps}
use Rattle.query_pieces.proofs.literals.said.Given as goal

abbrev pub invariant-loop-made : goal.invariant-loop-made
invariant-loop-made l = Keeps (chars l.text) l.made l.scan

abbrev pub decreases-loop-made : goal.decreases-loop-made
decreases-loop-made l = length l.scan
