use Rattle.node_builder.proofs.SoundTrees.{given_sound}
use Rattle.node_builder.proofs.builders.Builder.text.Goals as goal

pub returns-clause-sound : goal.returns-clause-sound
returns-clause-sound c = λ h. given_sound _ _ c.add.result _ (c.add.ensures _ c.text_tree-made.ensures) h
