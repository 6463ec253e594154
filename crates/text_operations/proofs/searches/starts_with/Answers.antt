use Rattle.std.proofs.lemmas.Str.Pattern.{starts_text}
use Rattle.text_operations.proofs.SearchLemmas.{starts_same}
use Rattle.text_operations.proofs.searches.starts_with.Goals as goal

pub returns : goal.returns
returns c = starts_same _ _ _ c.utf8.text c.utf8.part (starts_text _ _ _ c.starts_with.ensures.cases)
