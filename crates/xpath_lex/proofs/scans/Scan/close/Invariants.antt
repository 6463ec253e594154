use Rattle.std.proofs.Common.{◌+◌, ◌≤◌, length}
use Rattle.xpath_lex.proofs.CommentLemmas.{Same}
use Rattle.xpath_lex.proofs.scans.Scan.close.Given as goal

abbrev pub invariant-loop-depth : goal.invariant-loop-depth
invariant-loop-depth l = record {
  same : Same 1 l.fn.self l.depth l.self;
  room : l.depth + length l.self ≤ 1 + length l.fn.self;
  all : length l.fn.self ≤ l._bytes;
  shorter : length l.self ≤ length l.fn.self;
}

abbrev pub decreases-loop-depth : goal.decreases-loop-depth
decreases-loop-depth l = length l.self
