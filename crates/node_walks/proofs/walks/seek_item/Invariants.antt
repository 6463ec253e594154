use Rattle.std.proofs.Common.{◌≡◌, slice_get}
use Rattle.node_walks.specs.Moves.{given}
use Rattle.node_walks.proofs.walks.seek_item.Given as goal

abbrev pub invariant-loop-left : goal.invariant-loop-left
invariant-loop-left g l = slice_get (given l.walk) l.left ≡ slice_get (given l.fn.walk) l.place

abbrev pub decreases-loop-left : goal.decreases-loop-left
decreases-loop-left g l = l.left
