use Rattle.xpath_lex.proofs.PartLemmas.{number_taken, number_none, no_point, no_digit_behind}
use Rattle.xpath_lex.proofs.scans.Scan.take_number.Goals as goal

pub returns-then-is_before_digit : goal.returns-then-is_before_digit
returns-then-is_before_digit c = number_none _ _ _ c.take_run.ensures.taken c.if-eat.ensures c.if-is_before_digit.ensures

pub returns-else-is_before_digit : goal.returns-else-is_before_digit
returns-else-is_before_digit c =
    rw c.fork-end.ensures (number_taken _ _ c.requires c.take_run.ensures.taken c.take_run.ensures.ends (no_digit_behind _ _ c.if-eat.ensures c.if-is_before_digit.ensures))

pub returns-else-eat : goal.returns-else-eat
returns-else-eat c =
    rw c.if-eat.ensures.0 (number_taken _ _ c.requires c.take_run.ensures.taken c.take_run.ensures.ends (no_point _ c.if-eat.ensures.1))
