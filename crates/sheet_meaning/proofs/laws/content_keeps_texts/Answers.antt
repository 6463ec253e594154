use Rattle.sheet_meaning.proofs.Soundness.{texts-complex_content}
use Rattle.sheet_meaning.proofs.laws.content_keeps_texts.Goals as goal

pub returns : goal.returns
returns c = texts-complex_content
