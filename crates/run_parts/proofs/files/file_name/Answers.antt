use Rattle.std.proofs.lemmas.Str.{encodes-chars}
use Rattle.run_parts.proofs.files.file_name.Goals as goal

pub returns-in-Ok-clause-named : goal.returns-in-Ok-clause-named
returns-in-Ok-clause-named c = rw c.in-Ok.ensures.ok (encodes-chars _ c.utf8.name)
