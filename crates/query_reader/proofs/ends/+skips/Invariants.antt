use Rattle.std.proofs.Common.{length}
use Rattle.query_reader.proofs.ends.+skips.Given as goal

abbrev pub decreases-skips : goal.decreases-skips
decreases-skips l = length l.symbols.now
