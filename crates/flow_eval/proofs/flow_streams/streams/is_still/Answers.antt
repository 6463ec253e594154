use Rattle.std.proofs.Common.{subst, sym, ◌≡◌, ap}
use Rattle.expr_meaning.specs.Meaning.{outcome}
use Rattle.flow_eval.specs.FlowStreams.Streams.{IsStill, IsInteger}
use Rattle.flow_eval.proofs.FlowStreams.Clauses.{int_still, str_still, range_still}
use Rattle.flow_eval.proofs.flow_streams.streams.is_still.Goals as goal

pub returns-then-is_integer : goal.returns-then-is_integer
returns-then-is_integer c e p =
    subst (λ x. IsStill (outcome p x)) (sym c.in-Range.is)
    (range_still p c.in-Range.from c.in-Range.to
    (subst IsInteger c.get.ensures (c.is_integer.ensures c.if-is_integer.true))
    (subst IsInteger c.get-then-is_integer.ensures (c.is_integer-then-is_integer.ensures e)))

pub returns-in-Int : goal.returns-in-Int
returns-in-Int c e p =
    subst (λ x. IsStill (outcome p x)) (sym c.in-Int.is) (int_still p _)

pub returns-in-Str : goal.returns-in-Str
returns-in-Str c e p =
    subst (λ x. IsStill (outcome p x)) (sym c.in-Str.is) (str_still p _)
