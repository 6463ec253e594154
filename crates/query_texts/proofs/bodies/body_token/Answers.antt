use Rattle.std.proofs.Common.{subst}
use Rattle.query_pieces.specs.Answers.{Answers}
use Rattle.query_pieces.proofs.ShortLemmas.{reads_shorter}
use Rattle.query_texts.specs.Standings.{progress}
use Rattle.query_reader.specs.declared.query_steps.stages.ReaderState.TheVariants.{Body}
use Rattle.query_texts.proofs.StandingLemmas.{stuck}
use Rattle.query_texts.proofs.BodyLemmas.{body_refused, body_goes}
use Rattle.query_texts.proofs.bodies.body_token.Goals as goal

pub returns-in-Nothing : goal.returns-in-Nothing
returns-in-Nothing c =
    record {
      led = λ k text o d ds s.
          stuck k text (progress (Body c.args.reader.now) o d ds) c.args.pieces.now _
          (c.operand_in-operand.ensures c.args.pieces.now c.requires) s
          (subst (λ z. Answers c.operand_in-operand.result c.args.pieces.now z c.read.new.self)
          c.in-Nothing.is c.in_ok-read.ensures.answers);
      shorter = tt;
      sees = tt;
    }

pub returns-in-End : goal.returns-in-End
returns-in-End c =
    record {
      led = λ k text o d ds s. (
        s,
        subst (λ z. Answers c.operand_in-operand.result c.args.pieces.now z c.read.new.self)
            c.in-End.is c.in_ok-read.ensures.answers,
      );
      shorter = tt;
      sees = tt;
    }

pub returns-else-branch-clause-led : goal.returns-else-branch-clause-led
returns-else-branch-clause-led c = λ k text o d ds s.
    body_refused k text o d ds c.args.pieces.now c.read.new.self c.args.reader.now
    c.advance-went.new.self c.operand_in-operand.result c.in-Token.token c.second.result
    c.in_ok-went-in-Token.field-0 (c.operand_in-operand.ensures c.args.pieces.now c.requires) s
    (subst (λ z. Answers c.operand_in-operand.result c.args.pieces.now z c.read.new.self)
    c.in-Token.is c.in_ok-read.ensures.answers)
    (λ us split. c.second.ensures c.read.new.self us c.ahead-seen.ensures split)
    c.in_ok-went-in-Token.ensures.led c.if-branch.false

pub returns-then-branch-clause-led : goal.returns-then-branch-clause-led
returns-then-branch-clause-led c = λ k text o d ds s.
    body_goes k text o d ds c.args.pieces.now c.read.new.self c.args.reader.now
    c.advance-went.new.self c.operand_in-operand.result c.in-Token.token c.second.result
    c.in_ok-went-in-Token.field-0 (c.operand_in-operand.ensures c.args.pieces.now c.requires) s
    (subst (λ z. Answers c.operand_in-operand.result c.args.pieces.now z c.read.new.self)
    c.in-Token.is c.in_ok-read.ensures.answers)
    (λ us split. c.second.ensures c.read.new.self us c.ahead-seen.ensures split)
    c.in_ok-went-in-Token.ensures.led c.in_ok-went-in-Token.ensures.language
    c.in_ok-went-in-Token.ensures.limit c.if-branch.true

pub returns-then-branch-clause-shorter : goal.returns-then-branch-clause-shorter
returns-then-branch-clause-shorter c =
    reads_shorter c.operand_in-operand.result c.args.pieces.now c.in-Token.token c.read.new.self
    (subst (λ z. Answers c.operand_in-operand.result c.args.pieces.now z c.read.new.self)
    c.in-Token.is c.in_ok-read.ensures.answers)
