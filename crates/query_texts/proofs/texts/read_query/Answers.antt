use Rattle.std.proofs.Common.{sym, false, subst}
use Rattle.std.specs.Str.{chars}
use Rattle.query_reader.specs.declared.query_steps.stages.ReaderState.TheVariants as stage
use Rattle.query_texts.specs.declared.orders.Order.TheVariants.{First}
use Rattle.query_texts.specs.Standings.{Standing, Follows, IsShorter, SeesOn, progress}
use Rattle.query_texts.proofs.StandingLemmas.{begins}
use Rattle.query_texts.proofs.texts.read_query.Goals as goal

pub loop-pieces-init : goal.loop-pieces-init
loop-pieces-init c = (
  subst (λ z. Standing c.args.limit (chars c.args.text.now)
      (progress stage.Front First false c.new.result) z)
      (sym c.new-pieces.ensures)
      (begins c.args.limit (chars c.args.text.now) c.new.result c.new.ensures),
  c.ahead-ahead.ensures,
)

pub loop-pieces-preserved : goal.loop-pieces-preserved
loop-pieces-preserved c = (
  subst (λ z. Follows c.args.limit (chars c.args.text.now) z c.go_on.new.pieces) c.in-Onto.is
      (c.in_ok-reading.ensures.follows (chars c.args.text.now) c.loop-pieces.invariant.0),
  subst (λ z. SeesOn z c.go_on.new.pieces) c.in-Onto.is c.in_ok-reading.ensures.sees,
)

pub loop-pieces-smaller : goal.loop-pieces-smaller
loop-pieces-smaller c =
    subst (λ z. IsShorter z c.loop-pieces.pieces c.go_on.new.pieces) c.in-Onto.is
    c.in_ok-reading.ensures.shorter

pub returns-in-Ends : goal.returns-in-Ends
returns-in-Ends c =
    subst (λ z. Follows c.args.limit (chars c.args.text.now) z c.go_on.new.pieces) c.in-Ends.is
    (c.in_ok-reading.ensures.follows (chars c.args.text.now) c.loop-pieces.invariant.0)

pub go_on-requires : goal.go_on-requires
go_on-requires c = c.loop-pieces.invariant.1
