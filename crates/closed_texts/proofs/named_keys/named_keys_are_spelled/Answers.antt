use Rattle.closed_texts.proofs.NamedKeys.Stands.{named_spelled}
use Rattle.closed_texts.proofs.named_keys.named_keys_are_spelled.Goals as goal

pub returns : goal.returns
returns c = λ s grouped ts v w u h d e. named_spelled s grouped u v w h d e
