use Rattle.std.proofs.Common.{◌≡◌, ◌∙◌, ap, is_some}
use Rattle.expr_grammar.specs.Machine.{finish}
use Rattle.expr_reader.specs.View.{frames_of}
use Rattle.query_reader.proofs.EndLemmas.{tracked_end}
use Rattle.query_reader.proofs.ends.may_end.Goals as goal

pub returns : goal.returns
returns c = λ fs ts t.
    let e : c.ends_in.result ≡ is_some (finish (frames_of c.args.reader.now.frames.items)) =
    c.ends_in.ensures ∙ ap (λ z. is_some (finish (frames_of z))) c.open.ensures in
    tracked_end c.args.reader.now fs ts c.ends_in.result e t
