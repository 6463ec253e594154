use Rattle.std.proofs.Common.{arith}
use Rattle.xpath_lex.proofs.PlaceLemmas.{text_size}
use Rattle.xpath_lex.proofs.lexing.token_at.Goals as goal

pub next_token-requires : goal.next_token-requires
next_token-requires c =
    let fits = text_size _ _ c.range_from.utf8 c.new-scan.ensures in omega (arith, fits, c.range_from.ensures.len)
