use Rattle.std.proofs.Common.{◌∙◌, ap}
use Rattle.std.specs.Str.{chars}
use Rattle.query_pieces.proofs.AheadLemmas.{cut}
use Rattle.query_pieces.proofs.aheads.behind.Goals as goal

pub range_from-requires : goal.range_from-requires
range_from-requires c = λ h. (cut _ c.requires.0 c.requires.1 _ c.utf8.text c.requires.2
    c.requires.3).boundary

pub returns : goal.returns
returns c = λ front rest e s. (let at = cut _ front rest _ c.utf8.text e s in ap chars
    (c.range_from.ensures.value ∙ at.bytes) ∙ at.characters)
