use Rattle.std.proofs.Common.{map}
use Rattle.flow_eval.specs.Rows.{tuple_at}
use Rattle.eval_steps.proofs.Follow.{viewed}
use Rattle.flow_eval.proofs.RowLemmas.{placed_tuples}
use Rattle.flow_eval.proofs.rows.Rows.places.Goals as goal

pub returns : goal.returns
returns c =
    λ k. rw (
      placed_tuples _ c.args.self.now.tuples.items c.args.self.now.keys k,
      ← c.in_ok-descending.ensures,
      ← c.as_slice.ensures.value,
    )
    (viewed (map (tuple_at c.args.self.now.tuples.items)) c.sorted_rows.result k _
    (c.sorted_rows.ensures k))
