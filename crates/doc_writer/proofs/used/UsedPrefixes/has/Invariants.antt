use Rattle.std.proofs.Common.{◌≡◌, ◌-◌, length}
use Rattle.std.specs.HashSet.{contains}
use Rattle.std.specs.Str.{bytes_eq}
use Rattle.doc_writer.specs.Used.{AreKnown}
use Rattle.doc_writer.proofs.used.UsedPrefixes.has.Given as goal

abbrev pub invariant-loop-self : goal.invariant-loop-self
invariant-loop-self l = record {
  same : l.self-inside.prefixes.items ≡ l.fn.self;
  known : AreKnown l.self-inside.prefixes.items (λ p. contains bytes_eq l.self-inside.known p) l.self-inside.count;
}

abbrev pub decreases-loop-self : goal.decreases-loop-self
decreases-loop-self l = length l.self-inside.prefixes.items - l.self-inside.count
