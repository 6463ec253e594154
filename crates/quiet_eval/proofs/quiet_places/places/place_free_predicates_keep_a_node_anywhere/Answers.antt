use Rattle.quiet_eval.proofs.QuietPlaces.FreeLemmas.{free_is_same}
use Rattle.quiet_eval.proofs.quiet_places.places.place_free_predicates_keep_a_node_anywhere.Goals as goal

pub returns : goal.returns
returns c = free_is_same
