use Rattle.pattern_syntax.proofs.NameLemmas.{name_given}
use Rattle.pattern_syntax.proofs.names.parse_name.Goals as goal

pub returns-in-Ok : goal.returns-in-Ok
returns-in-Ok c = λ limit. name_given _ limit _ _ c.utf8.text c.requires c.in-Ok.ensures
