use Rattle.std.proofs.Common.{◌≡◌, ◌++◌, drop}
use Rattle.module_loading.proofs.module_reader.in_force.share_layers.Given as goal

abbrev pub invariant-loop-layer : goal.invariant-loop-layer
invariant-loop-layer l = l.layers ++ drop l.layer-index l.more ≡ l.initial.layers ++ l.more
