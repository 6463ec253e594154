use Rattle.name_rules.proofs.LayerLemmas.{layer_pushed}
use Rattle.name_rules.proofs.scopes.share_layer.Goals as goal

pub returns : goal.returns
returns c =
    layer_pushed c.args.layers.now.items c.push.new.self.items c.in_ok-copy.copy c.args.layer.now c.in_ok-push.ensures.items c.in_ok-copy.ensures.cases
