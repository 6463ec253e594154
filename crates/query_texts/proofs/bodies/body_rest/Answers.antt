use Rattle.std.proofs.Common.{subst}
use Rattle.query_reader.specs.declared.query_steps.stages.ReaderState.TheVariants.{Body}
use Rattle.query_texts.specs.Standings.{progress}
use Rattle.query_texts.specs.Bodies.{Led, IsShorter, SeesOn}
use Rattle.query_texts.proofs.bodies.body_rest.Goals as goal

pub loop-reader-init : goal.loop-reader-init
loop-reader-init c = (λ k text o d ds s. s, c.requires)

pub loop-reader-preserved : goal.loop-reader-preserved
loop-reader-preserved c = (
  λ k text o d ds s.
      subst (λ z. Led k text z (progress (Body c.body_token.new.reader) o d ds)
      c.loop-reader.pieces c.body_token.new.pieces) c.in-Onto.is
      (c.in_ok-body_token.ensures.led k text o d ds (c.loop-reader.invariant.0 k text o d ds s)),
  subst (λ z. SeesOn z c.body_token.new.pieces) c.in-Onto.is c.in_ok-body_token.ensures.sees,
)

pub loop-reader-smaller : goal.loop-reader-smaller
loop-reader-smaller c =
    subst (λ z. IsShorter z c.loop-reader.pieces c.body_token.new.pieces) c.in-Onto.is
    c.in_ok-body_token.ensures.shorter

pub returns-in-Refused : goal.returns-in-Refused
returns-in-Refused c = λ k text o d ds s.
    subst (λ z. Led k text z (progress (Body c.body_token.new.reader) o d ds)
    c.loop-reader.pieces c.body_token.new.pieces) c.in-Refused.is
    (c.in_ok-body_token.ensures.led k text o d ds (c.loop-reader.invariant.0 k text o d ds s))

pub returns-in-Over : goal.returns-in-Over
returns-in-Over c = λ k text o d ds s.
    let over =
    subst (λ z. Led k text z (progress (Body c.body_token.new.reader) o d ds)
    c.loop-reader.pieces c.body_token.new.pieces) c.in-Over.is
    (c.in_ok-body_token.ensures.led k text o d ds (c.loop-reader.invariant.0 k text o d ds s)) in
    record { point = c.loop-reader.pieces; standing = over.0; is_end = over.1 }

pub body_token-requires : goal.body_token-requires
body_token-requires c = c.loop-reader.invariant.1
