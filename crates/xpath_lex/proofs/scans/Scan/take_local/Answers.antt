use Rattle.xpath_lex.proofs.PartLemmas.{first_is, name_taken, local_found}
use Rattle.xpath_lex.proofs.scans.Scan.take_local.Goals as goal
use Rattle.xt_names.specs.Characters.{starts_name}

pub returns-in-Some : goal.returns-in-Some
returns-in-Some c =
    local_found _ _ _ c.if-eat.ensures (name_taken _ _ (first_is starts_name _ c.in-Some.c _ _ c.peek.ensures c.in-Some.is c.starts_name.ensures c.if-starts_name.true) c.take_run.ensures.taken c.take_run.ensures.ends) c.take_run.ensures.ends
