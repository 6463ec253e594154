use Rattle.sheet_values.proofs.PartLemmas.{empty_part, whole_part}
use Rattle.sheet_values.proofs.templates.with_chars.Goals as goal

pub returns-then-is_empty : goal.returns-then-is_empty
returns-then-is_empty c =
    empty_part c.args.made c.args.run c.in_ok-text.text _ c.in_ok-text.ensures c.is_empty.ensures
    c.if-is_empty.true

pub returns : goal.returns
returns c = whole_part c.args.made _ c.args.run c.in_ok-text.text _ c.in_ok-text.ensures
    c.is_empty.ensures c.if-is_empty.false c.in_ok-push.ensures.ok
