use Rattle.xt_atoms.proofs.IntegerLemmas.{written}
use Rattle.query_pages.proofs.token_writer.tokens.number_text.Goals as goal

pub returns : goal.returns
returns c = written _ _ _ c.ranges.number c.in_ok-to_string.ensures.ok c.of_string.ensures.ok
