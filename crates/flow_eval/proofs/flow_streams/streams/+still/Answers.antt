use Rattle.std.proofs.Common.{subst, sym, ◌≡◌, ◌∷◌, ◌-◌, List, take, drop, length}
use Rattle.eval_steps.proofs.Forms.{first_and_rest}
use Rattle.flow_eval.specs.FlowStreams.Streams.{BehindStill}
use Rattle.flow_eval.proofs.FlowStreams.Clauses.{more_still}
use Rattle.flow_eval.proofs.flow_streams.streams.+still.Goals as goal

pub returns-then-is_still_clause : goal.returns-then-is_still_clause
returns-then-is_still_clause t c e p =
    let rest = take (length c.args.clauses.now - 1) (drop 1 c.args.clauses.now) in
    subst (λ cs. BehindStill cs p)
    (sym (first_and_rest c.args.clauses.now c.first-item.result _ c.in-len1-up.len_at_least
    c.first-item.is))
    (more_still p c.first-item.result rest (c.is_still_clause.ensures c.if-is_still_clause.true p)
    (c.are_still.ensures e p))
