use Rattle.std.proofs.Common.{◌≡◌, ◌++◌, length, reverse}
use Rattle.node_builder.specs.Complex.{last_of_each}
use Rattle.node_builder.proofs.AttributeLemmas.{kept_before}
use Rattle.node_builder.proofs.attributes.last_of_each.Given as goal

abbrev pub invariant-loop-attribute : goal.invariant-loop-attribute
invariant-loop-attribute l = kept_before l.seen l.left.items ++ reverse l.kept.items ≡ last_of_each l.fn.attributes

abbrev pub decreases-loop-attribute : goal.decreases-loop-attribute
decreases-loop-attribute l = length l.left.items
