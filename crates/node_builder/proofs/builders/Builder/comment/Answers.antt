use Rattle.node_builder.proofs.SoundTrees.{comment_sound}
use Rattle.node_builder.proofs.builders.Builder.comment.Goals as goal

pub returns-clause-sound : goal.returns-clause-sound
returns-clause-sound c = λ h. comment_sound _ _ c.add.result _ (c.add.ensures _ c.comment_tree-made.ensures) h
