use Rattle.std.proofs.Common.{◌≡◌, ◌≤◌, length, take}
use Rattle.expr_reader.specs.View.{frames_of}
use Rattle.query_grammar.specs.QueryPlaces.Places.{wants_operand}
use Rattle.query_reader.proofs.places.wanted_in.Given as goal

abbrev pub invariant-loop-i : goal.invariant-loop-i
invariant-loop-i l = (l.i ≤ length l.frames)
    × (wants_operand (frames_of l.frames) ≡ wants_operand (frames_of (take l.i l.frames)))

abbrev pub decreases-loop-i : goal.decreases-loop-i
decreases-loop-i l = l.i
