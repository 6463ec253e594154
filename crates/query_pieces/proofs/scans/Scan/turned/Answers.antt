use Rattle.query_pieces.proofs.LiteralLemmas.{turned, turned_length, is_return, turns_line}
use Rattle.query_pieces.proofs.scans.Scan.turned.Goals as goal

pub returns-then-c-eq38-clause-turned : goal.returns-then-c-eq38-clause-turned
returns-then-c-eq38-clause-turned c = turned _ _ _ _ c.if-c-eq38.true c.reference.ensures

pub returns-then-c-eq38-clause-shorter : goal.returns-then-c-eq38-clause-shorter
returns-then-c-eq38-clause-shorter c = turned_length _ _ _ c.reference.ensures

pub returns-else-c-eq38-clause-turned : goal.returns-else-c-eq38-clause-turned
returns-else-c-eq38-clause-turned c = rw (
  is_return _ c.requires c.if-c-eq38.false,
  c.line_end.ensures,
) (turns_line _)
