use Rattle.std.proofs.Common.{◌≡◌, ◌∙◌, ap}
use Rattle.expr_reader.specs.View.{frames_of}
use Rattle.query_grammar.specs.QueryPlaces.Places.{wants_operand}
use Rattle.query_reader.proofs.WantLemmas.{tracked_want}
use Rattle.query_reader.proofs.places.wants_operand.Goals as goal

pub returns : goal.returns
returns c = λ fs ts t.
    let e : c.wanted_in.result ≡ wants_operand (frames_of c.args.reader.now.frames.items) =
    c.wanted_in.ensures ∙ ap (λ z. wants_operand (frames_of z)) c.open.ensures in
    tracked_want c.args.reader.now fs ts c.wanted_in.result e t
