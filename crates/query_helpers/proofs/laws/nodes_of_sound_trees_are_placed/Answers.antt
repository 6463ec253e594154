use Rattle.query_helpers.proofs.CopyGives.{sound_placed}
use Rattle.query_helpers.proofs.laws.nodes_of_sound_trees_are_placed.Goals as goal

pub returns : goal.returns
returns c = sound_placed
