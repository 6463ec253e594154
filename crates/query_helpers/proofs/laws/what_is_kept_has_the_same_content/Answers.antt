use Rattle.query_helpers.proofs.LastContent.{last_content}
use Rattle.query_helpers.proofs.laws.what_is_kept_has_the_same_content.Goals as goal

pub returns : goal.returns
returns c = last_content
