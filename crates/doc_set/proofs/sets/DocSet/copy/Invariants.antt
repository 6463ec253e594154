use Rattle.std.proofs.Common.{◌≡◌, take}
use Rattle.doc_set.proofs.sets.DocSet.copy.Given as goal

abbrev pub invariant-loop-place : goal.invariant-loop-place
invariant-loop-place l = l.documents.entries ≡ take l.place l.self-inside.documents.entries
