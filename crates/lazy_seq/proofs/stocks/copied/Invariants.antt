use Rattle.std.proofs.Common.{◌≡◌, take}
use Rattle.lazy_seq.proofs.stocks.copied.Given as goal

abbrev pub invariant-loop-place : goal.invariant-loop-place
invariant-loop-place l = l.copy.items ≡ take l.place l.items.items
