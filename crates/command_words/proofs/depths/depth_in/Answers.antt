use Rattle.std.proofs.Common.{sym, ◌∙◌}
use Rattle.command_words.proofs.DepthLemmas.{depth_read, depth_unread}
use Rattle.command_words.proofs.depths.depth_in.Goals as goal

pub returns-in-Ok : goal.returns-in-Ok
returns-in-Ok c =
    depth_read c.args.greatest c.in-Ok.n c.args.word.now c.parse.result c.within.result
    c.parse.ensures.value.0 (sym c.are_digits.ensures ∙ c.if-not-are_digits.false) c.in-Ok.is c.within.ensures

pub returns-in-Err : goal.returns-in-Err
returns-in-Err c =
    depth_unread c.args.greatest c.args.word.now c.parse.result c.in-Err.field-0
    c.parse.ensures.value.0 (sym c.are_digits.ensures ∙ c.if-not-are_digits.false) c.in-Err.is c.ranges.greatest.fits
