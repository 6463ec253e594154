use Rattle.std.proofs.Common.{length, map}
use Rattle.std.specs.Str.{chars}
use Rattle.xpath_lex.specs.Readings.{placed}
use Rattle.xpath_lex.proofs.PlaceLemmas.{Reads}
use Rattle.xpath_lex.proofs.lexing.tokens.Given as goal

abbrev pub invariant-loop-token : goal.invariant-loop-token
invariant-loop-token l = Reads (length l.text) (chars l.text) (map placed l.list) l.behind l.scan

abbrev pub decreases-loop-token : goal.decreases-loop-token
decreases-loop-token l = length l.scan
