use Rattle.std.proofs.Common.{◌≡◌, drop}
use Rattle.global_order.specs.ReachedPlaces.Walks.{with_places}
use Rattle.global_order.proofs.reached_places.walks.add_all.Given as goal

abbrev pub invariant-loop-place : goal.invariant-loop-place
invariant-loop-place l =
    with_places l.size l.found (drop l.place-index l.places) ≡ with_places l.size l.initial.found l.places
