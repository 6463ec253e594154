use Rattle.eval_steps.proofs.Forms.{no_items}
use Rattle.flow_eval.proofs.FlowStreams.Clauses.{all_streamed}
use Rattle.flow_eval.proofs.flow_streams.streams.is_streamed.Goals as goal

pub returns-in-empty : goal.returns-in-empty
returns-in-empty c e =
    all_streamed c.args.parts.now c.in-None.is
    (rw (c.as_slice.ensures, c.get.ensures) at
    (no_items c.as_slice.result.now c.in-empty.len_below))
    (λ p. rw (c.as_slice-in-empty.ensures, c.get-in-empty.ensures) at (c.are_streamed.ensures e p))
