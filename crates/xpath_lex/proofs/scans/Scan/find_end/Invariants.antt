use Rattle.std.proofs.Common.{◌≡◌, false, None, length}
use Rattle.xpath_lex.specs.Runs.{literal_rest}
use Rattle.xpath_lex.proofs.scans.Scan.find_end.Given as goal

abbrev pub invariant-loop-quote : goal.invariant-loop-quote
invariant-loop-quote l = literal_rest l.quote false l.self l.end ≡ literal_rest l.quote false l.fn.self None

abbrev pub decreases-loop-quote : goal.decreases-loop-quote
decreases-loop-quote l = length l.self
