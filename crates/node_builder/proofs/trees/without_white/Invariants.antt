use Rattle.std.proofs.Common.{◌≡◌}
use Rattle.node_builder.specs.Trees.{without_white}
use Rattle.node_builder.proofs.TrimLemmas.{has_begun}
use Rattle.node_builder.proofs.trees.without_white.Given as goal

abbrev pub invariant-loop-c : goal.invariant-loop-c
invariant-loop-c l = record { text_is : l.text ≡ without_white l.yielded; begun_is : l.begun ≡ has_begun l.yielded }
