-- The moves of either kind of walk.
use Rattle.std.specs.Prelude.{Bool, true}
use Rattle.node_walks.specs.Moves.{Moves}
use Rattle.node_walks.specs.declared.walks.Trail.{Trail}
use Rattle.node_walks.specs.declared.walks.Trail.TheVariants.{Axis, Quiet}

abbrev pub trail_moves : Trail → Moves
trail_moves (Axis moves) = moves
trail_moves (Quiet sifting) = sifting.moves

-- whether the item at which it stands is known to be given
abbrev pub is_ready : Trail → Bool
is_ready (Axis moves) = true
is_ready (Quiet sifting) = sifting.kept
