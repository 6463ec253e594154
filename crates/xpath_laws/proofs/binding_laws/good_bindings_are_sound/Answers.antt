use Rattle.xpath_laws.proofs.BindingLaws.Bindings.{bindings_sound}
use Rattle.xpath_laws.proofs.binding_laws.good_bindings_are_sound.Goals as goal

pub returns : goal.returns
returns c = bindings_sound
