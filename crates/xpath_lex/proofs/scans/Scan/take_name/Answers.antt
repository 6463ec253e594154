use Rattle.std.proofs.Common.{◌∙◌}
use Rattle.xpath_lex.proofs.PartLemmas.{name_taken, word_taken, star_taken, local_taken}
use Rattle.xpath_lex.proofs.scans.Scan.take_name.Goals as goal

pub returns-then-take_local : goal.returns-then-take_local
returns-then-take_local c = local_taken _ _ _ (name_taken _ _ c.requires c.take_run.ensures.taken c.take_run.ensures.ends) c.if-take_local.ensures

pub returns-then-take_colon_star : goal.returns-then-take_colon_star
returns-then-take_colon_star c =
    star_taken _ _ _ (name_taken _ _ c.requires c.take_run.ensures.taken c.take_run.ensures.ends) (rw c.if-take_local.ensures.0 at c.if-take_colon_star.ensures)

pub returns : goal.returns
returns c =
    word_taken _ _ _ (name_taken _ _ c.requires c.take_run.ensures.taken c.take_run.ensures.ends) c.take_run.ensures.ends
    (c.if-take_colon_star.ensures.0 ∙ c.if-take_local.ensures.0) c.if-take_local.ensures.1 (rw c.if-take_local.ensures.0 at c.if-take_colon_star.ensures.1)
