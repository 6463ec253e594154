use Rattle.std.proofs.Common.{vec_len}
use Rattle.expr_reader.specs.View.{frames_of}
use Rattle.expr_reader.proofs.ClimbLemmas.{Going}
use Rattle.expr_reader.proofs.steps.advance.Given as goal

abbrev pub invariant-loop-frame : goal.invariant-loop-frame
invariant-loop-frame l = Going l.measure l.limit l.initial.is_deep l.is_deep l.language l.token l.second (frames_of l.initial.frames.items) (frames_of l.frames.items)

abbrev pub decreases-loop-frame : goal.decreases-loop-frame
decreases-loop-frame l = vec_len l.frames
