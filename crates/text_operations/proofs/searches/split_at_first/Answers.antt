use Rattle.text_operations.proofs.SearchLemmas.{split_parts_found}
use Rattle.text_operations.proofs.searches.split_at_first.Goals as goal

pub returns : goal.returns
returns c = split_parts_found _ _ _ c.utf8.text c.utf8.part c.split_once.ensures.cases
