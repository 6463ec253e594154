use Rattle.printed_laws.proofs.QueryRaws.Spell.{query_spelled}
use Rattle.printed_laws.proofs.query_raws.tokens_spell.Goals as goal

pub returns : goal.returns
returns c = query_spelled
