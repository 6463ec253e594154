use Rattle.std.proofs.Common.{length}
use Rattle.query_pieces.specs.Aheads.{Sees}
use Rattle.std.specs.Str.{chars}
use Rattle.query_texts.specs.Standings.{Standing}
use Rattle.query_texts.proofs.texts.read_query.Given as goal

abbrev pub invariant-loop-pieces : goal.invariant-loop-pieces
invariant-loop-pieces l =
    Standing l.limit (chars l.text) l.progress l.pieces × Sees l.pieces l.ahead

abbrev pub decreases-loop-pieces : goal.decreases-loop-pieces
decreases-loop-pieces l = length l.pieces.rest
