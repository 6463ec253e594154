use Rattle.std.proofs.Common.{sym, ◌∙◌}
use Rattle.std.proofs.lemmas.List.{append-nil}
use Rattle.node_builder.proofs.ContentLemmas.{flushed_none, flushed_some}
use Rattle.node_builder.proofs.texts.push_node.Goals as goal

pub returns-then-is_empty : goal.returns-then-is_empty
returns-then-is_empty c =
    rw (flushed_none c.args.text (sym c.is_empty.ensures ∙ c.if-is_empty.true)) (sym (append-nil c.args.done.now))

pub returns : goal.returns
returns c =
    rw (flushed_some c.args.text (λ e. cc (c.if-is_empty.false, c.is_empty.ensures, e))) c.push.ensures.ok
