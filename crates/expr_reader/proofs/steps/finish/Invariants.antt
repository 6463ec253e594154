use Rattle.std.proofs.Common.{vec_len}
use Rattle.expr_reader.specs.View.{frames_of}
use Rattle.expr_reader.proofs.ClimbLemmas.{Ending}
use Rattle.expr_reader.proofs.steps.finish.Given as goal

abbrev pub invariant-loop-frame : goal.invariant-loop-frame
invariant-loop-frame l = Ending l.measure l.limit l.initial.deep l.deep (frames_of l.initial.frames.items) (frames_of l.frames.items)

abbrev pub decreases-loop-frame : goal.decreases-loop-frame
decreases-loop-frame l = vec_len l.frames
