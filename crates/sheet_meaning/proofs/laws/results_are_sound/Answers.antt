use Rattle.sheet_meaning.proofs.Soundness.{result_sound}
use Rattle.sheet_meaning.proofs.laws.results_are_sound.Goals as goal

pub returns : goal.returns
returns c = result_sound
