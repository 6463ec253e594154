use Rattle.meaning_laws.proofs.SoundValues.Arguments.{converted_known}
use Rattle.meaning_laws.proofs.sound_values.conversions_keep_values_sound.Goals as goal

pub returns : goal.returns
returns c = converted_known
