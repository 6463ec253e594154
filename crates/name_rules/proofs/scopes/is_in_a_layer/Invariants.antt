use Rattle.std.proofs.Common.{◌≡◌, drop}
use Rattle.name_rules.specs.Scopes.{has_name}
use Rattle.name_rules.specs.Layers.{layer_names}
use Rattle.name_rules.proofs.scopes.is_in_a_layer.Given as goal

abbrev pub invariant-loop-layer : goal.invariant-loop-layer
invariant-loop-layer l = has_name (layer_names (drop l.layer-index l.layers)) l.name ≡ has_name (layer_names l.layers) l.name
