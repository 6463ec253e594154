use Rattle.meaning_laws.proofs.SoundRuns.Carried.{expression_sound}
use Rattle.meaning_laws.proofs.sound_runs.what_an_expression_gives_is_sound.Goals as goal

pub returns : goal.returns
returns c = expression_sound
