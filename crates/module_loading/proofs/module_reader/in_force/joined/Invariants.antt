use Rattle.std.proofs.Common.{◌≡◌, ◌++◌, drop}
use Rattle.module_loading.specs.ModuleReader.InForce.{all_of}
use Rattle.module_loading.proofs.module_reader.in_force.joined.Given as goal

abbrev pub invariant-loop-layer : goal.invariant-loop-layer
invariant-loop-layer l = l.all ++ all_of (drop l.layer-index l.layers) ≡ all_of l.layers
