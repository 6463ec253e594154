use Rattle.std.proofs.Common.{sym, ap, ◌∙◌}
use Rattle.query_pieces.specs.Points.{Point}
use Rattle.query_pieces.proofs.AskLemmas.{top_element, no_top}
use Rattle.query_pieces.proofs.pieces.Pieces.read.Goals as goal

pub read_token-requires-clause-inside : goal.read_token-requires-clause-inside
read_token-requires-clause-inside c = (rw c.in-Some.is at c.requires).0

pub read_token-requires-clause-leads : goal.read_token-requires-clause-leads
read_token-requires-clause-leads c = (rw c.in-Some.is at c.requires).1

pub read_piece-requires-clause-top : goal.read_piece-requires-clause-top
read_piece-requires-clause-top c = (
  _,
  ap (λ (p : Point). p.contexts) (sym c.self.view_is)
      ∙ c.in-Some-top.ensures,
)

pub read_piece-requires-clause-element : goal.read_piece-requires-clause-element
read_piece-requires-clause-element c =
    top_element c.args.self.now _ _ (rw c.in-None.is at c.requires)
    (ap (λ (p : Point). p.contexts) (sym c.self.view_is) ∙ c.in-Some-top.ensures)
