use Rattle.std.proofs.Common.{sym, ◌∙◌}
use Rattle.query_pieces.specs.Literals.{is_said}
use Rattle.query_pieces.proofs.LiteralLemmas.{rest_first, falls, keeps_run, keeps_step, keeps_over}
use Rattle.query_pieces.proofs.LiteralLemmas.{left_none}
use Rattle.query_pieces.proofs.literals.said.Goals as goal

pub turned-requires : goal.turned-requires
turned-requires c = rest_first is_said c.loop-made.scan _ _ (sym c.in-Some.ensures
    ∙ c.take_run-run.ensures.rest)

pub loop-made-smaller : goal.loop-made-smaller
loop-made-smaller c = falls c.loop-made.scan _ _ _ _ c.take_run-run.ensures.rest c.in-Some.ensures
    c.in-Some-turned.ensures.shorter

pub loop-made-preserved : goal.loop-made-preserved
loop-made-preserved c =
    keeps_step _ _ _ _ _ _ _ _ _ _ c.in-Some-turned.said c.loop-made.invariant
    c.take_run-run.ensures.run c.take_run-run.ensures.rest c.in_ok-push_str.ensures.ok
    c.in-Some.ensures c.in-Some-turned.ensures.turned c.in_ok-push-in-Some-turned.ensures.ok

pub returns-in-None-turned : goal.returns-in-None-turned
returns-in-None-turned c =
    left_none _ _ _ _ _ _ _ _ c.loop-made.invariant c.take_run-run.ensures.run
    c.take_run-run.ensures.rest c.in_ok-push_str.ensures.ok c.in-Some.ensures
    c.in-None-turned.ensures.turned

pub returns-in-None : goal.returns-in-None
returns-in-None c =
    rw c.in_ok-finish-in-None.ensures (keeps_over _ _ _ (keeps_run _ _ _ _ _ _
    c.loop-made.invariant c.take_run-run.ensures.run c.take_run-run.ensures.rest
    c.in_ok-push_str.ensures.ok) c.in-None.ensures.0)
