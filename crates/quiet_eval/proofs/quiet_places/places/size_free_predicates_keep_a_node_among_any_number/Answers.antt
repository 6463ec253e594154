use Rattle.quiet_eval.proofs.QuietPlaces.FreeLemmas.{size_free}
use Rattle.quiet_eval.proofs.quiet_places.places.size_free_predicates_keep_a_node_among_any_number.Goals as goal

pub returns : goal.returns
returns c = size_free
