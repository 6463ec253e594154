use Rattle.doc_set.proofs.WhiteSpace.StripSound.{tree_sound}
use Rattle.doc_set.proofs.white_space.laws.stripped_trees_are_sound.Goals as goal

pub returns : goal.returns
returns c = tree_sound
