use Rattle.std.proofs.Common.{◌≡◌, ◌-◌, length}
use Rattle.global_order.specs.ReachedPlaces.Walks.{walked, reached_from}
use Rattle.global_order.proofs.reached_places.walks.walk.Given as goal

abbrev pub invariant-loop-turn : goal.invariant-loop-turn
invariant-loop-turn l = walked (length l.graph - l.turn) l.graph l.turn l.found ≡ reached_from l.graph l.from
