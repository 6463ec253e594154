use Rattle.meaning_laws.proofs.SoundFunctions.Kept.{values_kept}
use Rattle.meaning_laws.proofs.sound_functions.operators_and_functions_keep_values_sound.Goals as goal

pub returns : goal.returns
returns c = values_kept
