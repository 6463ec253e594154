use Rattle.std.proofs.Common.{◌≡◌, ◌+◌, drop, true}
use Rattle.std.proofs.lemmas.List.{take_rest}
use Rattle.expr_terms.specs.Choices.{second_of}
use Rattle.expr_reader.specs.Answers.{Advanced}
use Rattle.expr_reader.specs.View.{frames_of}
use Rattle.expr_reader.proofs.ClimbLemmas.{reads_step}
use Rattle.expr_reader.proofs.read.Goals as goal

pub loop-i-preserved : goal.loop-i-preserved
loop-i-preserved c =
    let s : c.second_of-second.result ≡ second_of (drop (c.loop-i.i + 1) c.args.tokens.now) = rw take_rest at c.second_of-second.ensures in
    let a : Advanced true c.args.measure c.args.limit c.loop-i.is_deep c.advance.new.is_deep c.args.language c.index-tokens-i.result c.second_of-second.result (frames_of c.loop-i.frames.items) (frames_of c.advance.new.frames.items) = rw c.if-not-branch.false at c.in_ok-advance.ensures in
    reads_step c.args.measure c.args.limit c.args.language c.loop-i.is_deep c.advance.new.is_deep c.args.tokens.now c.loop-i.i _ _ _ _ _ c.loop-i-test.true c.loop-i.invariant s c.index-tokens-i.is a
