use Rattle.std.proofs.Common.{sym, ap, ◌∙◌}
use Rattle.query_pieces.specs.Points.{Point}
use Rattle.query_pieces.proofs.AnswerLemmas.{stuck_open}
use Rattle.query_pieces.proofs.pieces.Pieces.over.Goals as goal

pub returns-in-Some : goal.returns-in-Some
returns-in-Some c = λ operand q i. stuck_open operand _ _ _ i c.requires (ap (λ
    (p : Point). p.contexts) (sym c.self.view_is) ∙ c.in-Some.ensures)
