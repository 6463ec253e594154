use Rattle.run_parts.proofs.Results.{result_has_text}
use Rattle.run_parts.proofs.sheets.result_text.Goals as goal

pub text_of-text-requires : goal.text_of-text-requires
text_of-text-requires c = result_has_text _ _ _ _ c.in_ok-tree.ensures.tree
