use Rattle.std.proofs.Common.{◌++◌, sym, ap, ◌∙◌}
use Rattle.std.specs.Char.{encode_utf8}
use Rattle.doc_writer.proofs.RunLemmas.{written_first}
use Rattle.doc_writer.proofs.escapes.push_first.Goals as goal

pub returns-clause-written : goal.returns-clause-written
returns-clause-written g c =
    written_first g.E.Escape.written c.args.s.now c.as_str.result.now _ _ c.in-Some.c c.utf8.s
    (sym c.chars-chars.ensures.rest ∙ c.in-Some.ensures.steps.0 ∙ ap (λ b. encode_utf8 c.in-Some.c ++ b) (sym c.as_str.ensures)) c.in_ok-push_char.ensures
