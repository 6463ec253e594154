use Rattle.piece_laws.proofs.Splitting.{splits_sound}
use Rattle.piece_laws.proofs.tokens_are_sound.Goals as goal

pub returns : goal.returns
returns c = splits_sound
