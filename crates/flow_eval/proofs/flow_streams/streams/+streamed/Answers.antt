use Rattle.std.proofs.Common.{subst, sym, ◌≡◌, ◌∷◌, ◌-◌, List, take, drop, length}
use Rattle.xt_syntax.specs.declared.exprs.Clause.{Clause}
use Rattle.eval_steps.proofs.Forms.{first_and_rest}
use Rattle.flow_eval.specs.FlowStreams.Streams.{AreStreamed}
use Rattle.flow_eval.proofs.FlowStreams.Clauses.{let_streamed, for_streamed}
use Rattle.flow_eval.proofs.flow_streams.streams.+streamed.Goals as goal

pub returns-in-Let : goal.returns-in-Let
returns-in-Let t c e p =
    let rest = take (length c.args.clauses.now - 1) (drop 1 c.args.clauses.now) in
    subst (λ cs. AreStreamed cs p)
    (sym (first_and_rest c.args.clauses.now c.first-item.result _ c.in-len1-up.len_at_least
    c.first-item.is))
    (subst (λ (x : Clause). AreStreamed (x ∷ rest) p) (sym c.in-Let.is)
    (let_streamed p c.in-Let.field-0 rest (c.are_streamed.ensures e p)))

pub returns-then-is_untyped : goal.returns-then-is_untyped
returns-then-is_untyped t c e p =
    let rest = take (length c.args.clauses.now - 1) (drop 1 c.args.clauses.now) in
    subst (λ cs. AreStreamed cs p)
    (sym (first_and_rest c.args.clauses.now c.first-item.result _ c.in-len1-up.len_at_least
    c.first-item.is))
    (subst (λ (x : Clause). AreStreamed (x ∷ rest) p) (sym c.in-For.is)
    (for_streamed p c.in-For.bind c.in-For.field-1 rest (c.is_untyped.ensures c.if-is_untyped.true)
    (c.are_still.ensures e p)))
