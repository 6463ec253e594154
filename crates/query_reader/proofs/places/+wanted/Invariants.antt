use Rattle.std.proofs.Common.{length}
use Rattle.query_reader.proofs.places.+wanted.Given as goal

abbrev pub decreases-wanted : goal.decreases-wanted
decreases-wanted l = length l.symbols.now
