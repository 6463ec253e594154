use Rattle.meaning_laws.proofs.SoundValues.Trees.{value_text, all_atomized}
use Rattle.meaning_laws.proofs.sound_values.values_of_sound_items_are_sound.Goals as goal

pub returns-clause-texts : goal.returns-clause-texts
returns-clause-texts c = value_text

pub returns-clause-atoms : goal.returns-clause-atoms
returns-clause-atoms c = all_atomized
