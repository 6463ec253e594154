use Rattle.std.proofs.Common.{drop}
use Rattle.expr_grammar.specs.Machine.{start}
use Rattle.expr_reader.specs.View.{frames_of}
use Rattle.expr_reader.proofs.ClimbLemmas.{Reads}
use Rattle.expr_reader.proofs.read.Given as goal

abbrev pub invariant-loop-i : goal.invariant-loop-i
invariant-loop-i l = Reads l.measure l.limit l.language l.is_deep l.tokens (drop l.i l.tokens) (start l.fn.production) (frames_of l.frames.items)
