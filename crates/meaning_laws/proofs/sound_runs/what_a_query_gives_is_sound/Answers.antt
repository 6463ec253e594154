use Rattle.meaning_laws.proofs.SoundRuns.Runs.{query_sound}
use Rattle.meaning_laws.proofs.sound_runs.what_a_query_gives_is_sound.Goals as goal

pub returns : goal.returns
returns c = query_sound
