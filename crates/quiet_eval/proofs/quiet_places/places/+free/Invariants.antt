use Rattle.std.proofs.Common.{◌≡◌, drop, map, false}
use Rattle.std.specs.List.{list_all}
use Rattle.quiet_eval.specs.QuietPlaces.Free.{free_of}
use Rattle.quiet_eval.proofs.quiet_places.places.+free.Given as goal

abbrev pub invariant-are_free-loop-e : goal.invariant-are_free-loop-e
invariant-are_free-loop-e l = list_all (λ f. f l.placed false)
    (map free_of (drop l.e-index l.all)) ≡ list_all (λ f. f l.placed false) (map free_of l.all)
