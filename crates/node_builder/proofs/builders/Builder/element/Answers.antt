use Rattle.node_builder.proofs.SoundTrees.{element_sound}
use Rattle.node_builder.proofs.builders.Builder.element.Goals as goal

pub returns-clause-sound : goal.returns-clause-sound
returns-clause-sound c = λ n h. element_sound _ _ c.add.result c.args.duplicates c.args.name c.args.content.now (c.add.ensures _ c.element_tree-made.ensures) n h
