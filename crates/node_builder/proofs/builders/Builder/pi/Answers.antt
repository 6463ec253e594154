use Rattle.node_builder.proofs.SoundTrees.{pi_sound}
use Rattle.node_builder.proofs.builders.Builder.pi.Goals as goal

pub returns-clause-sound : goal.returns-clause-sound
returns-clause-sound c = λ n x h. pi_sound _ _ c.add.result _ _ (c.add.ensures _ c.pi_tree-made.ensures) n x h
