use Rattle.std.proofs.Common.{[], false}
use Rattle.closed_parts.proofs.SoundNodes.Trees.{nodes_sound, element_node_sound}
use Rattle.closed_parts.proofs.sound_nodes.nodes_of_sound_trees_are_sound.Goals as goal
use Rattle.xt_names.proofs.ClassLemmas.{no_text}

pub returns-clause-forests : goal.returns-clause-forests
returns-clause-forests c =
    λ keep declared kids d h. nodes_sound keep declared [] kids d no_text false h

pub returns-clause-elements : goal.returns-clause-elements
returns-clause-elements c = element_node_sound
