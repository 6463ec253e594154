use Rattle.node_builder.proofs.SoundTrees.{document_sound}
use Rattle.node_builder.proofs.builders.Builder.document.Goals as goal

pub returns-clause-sound : goal.returns-clause-sound
returns-clause-sound c = λ h. document_sound _ _ c.add.result c.args.duplicates c.args.content.now (c.add.ensures _ c.document_tree-made.ensures) h
