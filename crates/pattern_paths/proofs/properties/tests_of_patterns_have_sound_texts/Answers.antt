use Rattle.pattern_paths.proofs.SoundTexts.{alternatives_sound, pattern_sound}
use Rattle.pattern_paths.proofs.properties.tests_of_patterns_have_sound_texts.Goals as goal

pub returns-clause-one : goal.returns-clause-one
returns-clause-one c = pattern_sound

pub returns-clause-any : goal.returns-clause-any
returns-clause-any c = alternatives_sound
