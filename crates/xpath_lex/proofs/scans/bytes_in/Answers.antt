use Rattle.std.proofs.Common.{sym, length, ap}
use Rattle.std.proofs.lemmas.Str.{encodes-chars}
use Rattle.xpath_lex.specs.Readings.{size}
use Rattle.xpath_lex.proofs.scans.bytes_in.Goals as goal

pub returns : goal.returns
unfolding size
returns c = ap length (sym (encodes-chars _ c.utf8.text))
