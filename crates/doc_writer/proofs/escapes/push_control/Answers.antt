use Rattle.doc_writer.proofs.EscapeLemmas.{reference_parts}
use Rattle.doc_writer.proofs.escapes.push_control.Goals as goal

pub returns : goal.returns
returns c =
    reference_parts c.args.out.now _ _ _ _ c.args.c _ _ c.requires.low c.requires.high c.hex_digit.ensures c.hex_digit-2.ensures c.in_ok-push_ascii.ensures
    c.in_ok-push.ensures.ok c.in_ok-push-2.ensures.ok c.in_ok-push_ascii-2.ensures
