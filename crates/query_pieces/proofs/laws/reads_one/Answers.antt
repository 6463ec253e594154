use Rattle.query_pieces.proofs.ReadingLemmas.{reads_one, reads_ends, reads_modes}
use Rattle.query_pieces.proofs.ShortLemmas.{reads_shorter}
use Rattle.query_pieces.proofs.laws.reads_one.Goals as goal

pub returns-clause-one : goal.returns-clause-one
returns-clause-one c = reads_one

pub returns-clause-ends : goal.returns-clause-ends
returns-clause-ends c = reads_ends

pub returns-clause-modes : goal.returns-clause-modes
returns-clause-modes c = reads_modes

pub returns-clause-shorter : goal.returns-clause-shorter
returns-clause-shorter c = reads_shorter
