use Rattle.printable_forms.proofs.ListLemmas.{empty_run, full_run}
use Rattle.printable_forms.proofs.runs.can_run.Goals as goal

pub returns-then-is_empty : goal.returns-then-is_empty
returns-then-is_empty c =
    empty_run c.args.value c.args.text.now _ c.is_empty.ensures c.if-is_empty.true

pub returns : goal.returns
returns c = full_run c.args.value c.args.text.now _ _ _ c.is_empty.ensures c.if-is_empty.false
    c.as_str.ensures.chars c.have_ways.ensures
