use Rattle.std.proofs.lemmas.Str.Pattern.{ends_text}
use Rattle.text_operations.proofs.SearchLemmas.{ends_same}
use Rattle.text_operations.proofs.searches.ends_with.Goals as goal

pub returns : goal.returns
returns c = ends_same _ _ _ c.utf8.text c.utf8.part (ends_text _ _ _ c.ends_with.ensures.cases)
