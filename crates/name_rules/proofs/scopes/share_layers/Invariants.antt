use Rattle.std.proofs.Common.{◌≡◌, ◌++◌, drop}
use Rattle.name_rules.specs.Layers.{layer_names}
use Rattle.name_rules.proofs.scopes.share_layers.Given as goal

abbrev pub invariant-loop-layer : goal.invariant-loop-layer
invariant-loop-layer l = layer_names l.shared.items ++ layer_names (drop l.layer-index l.layer-items) ≡ layer_names l.layer-items
