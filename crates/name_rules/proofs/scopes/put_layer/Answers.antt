use Rattle.std.proofs.Common.{refl}
use Rattle.name_rules.proofs.LayerLemmas.{layer_pushed}
use Rattle.name_rules.proofs.scopes.put_layer.Goals as goal

pub returns : goal.returns
returns c =
    layer_pushed c.args.outer.now.items c.push.new.self.items c.args.layer c.args.layer c.in_ok-push.ensures.items refl
