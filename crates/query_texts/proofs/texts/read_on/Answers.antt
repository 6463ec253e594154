use Rattle.std.proofs.Common.{subst}
use Rattle.query_pieces.specs.Answers.{Answers}
use Rattle.query_pieces.specs.Readings.{Reads}
use Rattle.query_texts.proofs.StandingLemmas.{stuck, ending, taken_none, taken_some}
use Rattle.query_pieces.proofs.ShortLemmas.{reads_shorter}
use Rattle.query_texts.proofs.texts.read_on.Goals as goal

pub returns-in-Nothing : goal.returns-in-Nothing
returns-in-Nothing c =
    record {
      follows = λ text s.
          stuck c.args.limit text c.args.progress c.args.pieces.now _ (c.operand_at-operand.ensures c.args.pieces.now c.requires) s
          (subst (λ z. Answers c.operand_at-operand.result c.args.pieces.now z c.read.new.self) c.in-Nothing.is
          c.in_ok-read.ensures.answers);
      shorter = tt;
      sees = tt;
    }

pub returns-in-End : goal.returns-in-End
returns-in-End c =
    record {
      follows = λ text s.
          ending c.args.limit text c.args.progress c.args.pieces.now _ s
          (subst (λ z. Answers c.operand_at-operand.result c.args.pieces.now z c.read.new.self) c.in-End.is
          c.in_ok-read.ensures.answers) c.in_ok-end-in-End.ensures;
      shorter = tt;
      sees = tt;
    }

pub returns-in-None : goal.returns-in-None
returns-in-None c =
    record {
      follows = λ text s.
          taken_none c.args.limit text c.args.progress c.args.pieces.now c.read.new.self
          c.operand_at-operand.result c.in-Token.token c.second.result _ (c.operand_at-operand.ensures c.args.pieces.now c.requires) s
          (subst (λ z. Answers c.operand_at-operand.result c.args.pieces.now z c.read.new.self) c.in-Token.is
          c.in_ok-read.ensures.answers)
          (λ us split. c.second.ensures c.read.new.self us c.ahead-seen.ensures split) c.in_ok-take-in-Token.ensures c.in-None.is;
      shorter = tt;
      sees = tt;
    }

pub returns : goal.returns
returns c =
    let r : Reads c.operand_at-operand.result c.args.pieces.now c.in-Token.token c.read.new.self =
    subst (λ z. Answers c.operand_at-operand.result c.args.pieces.now z c.read.new.self) c.in-Token.is
    c.in_ok-read.ensures.answers in
    record {
      follows = λ text s.
          taken_some c.args.limit text c.args.progress c.args.pieces.now c.read.new.self
          c.operand_at-operand.result c.in-Token.token c.second.result _ c.in-Some.further (c.operand_at-operand.ensures c.args.pieces.now c.requires)
          s r
          (λ us split. c.second.ensures c.read.new.self us c.ahead-seen.ensures split) c.in_ok-take-in-Token.ensures c.in-Some.is;
      shorter =
          reads_shorter c.operand_at-operand.result c.args.pieces.now c.in-Token.token c.read.new.self r;
      sees = c.ahead-seen.ensures;
    }
