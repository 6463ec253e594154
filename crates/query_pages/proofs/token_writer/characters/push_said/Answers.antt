use Rattle.std.proofs.Common.{sym, ap, ◌++◌, ◌∙◌}
use Rattle.xt_names.proofs.MarkLemmas.{map_same}
use Rattle.std.proofs.lemmas.Iterator.{YieldsList-from_chars}
use Rattle.std.proofs.lemmas.Iterator.Consumers.{YieldsList-end}
use Rattle.query_pages.specs.TokenTexts.Spellings.{said_texts}
use Rattle.query_pages.proofs.TokenWriter.Said.{said_none, said_turn}
use Rattle.query_pages.proofs.token_writer.characters.push_said.Goals as goal

pub loop-c-init : goal.loop-c-init
loop-c-init c = said_none _

pub loop-c-preserved : goal.loop-c-preserved
loop-c-preserved c = said_turn _ c.loop-c.out _ c.loop-c.yielded c.in-Some.c c.loop-c.invariant
    c.in_ok-push_said_char.ensures

pub returns : goal.returns
returns c =
    let t = YieldsList-end (YieldsList-from_chars c.args.s.now c.utf8.s cc) c.loop-c.yielded _
    c.loop-c.yielded_by _ _ c.in-None.is c.next.ensures.steps in
    c.loop-c.invariant ∙ ap (λ cs. c.args.out.now ++ said_texts cs)
    (sym (map_same c.loop-c.yielded) ∙ t.0)
