use Rattle.closed_texts.proofs.SheetLaws.Lexed.{text_sound}
use Rattle.closed_texts.proofs.sheet_laws.tokens_are_sound.Goals as goal

pub returns : goal.returns
returns c = text_sound
