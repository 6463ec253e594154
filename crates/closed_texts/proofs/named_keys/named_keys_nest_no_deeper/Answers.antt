use Rattle.closed_texts.proofs.NamedKeys.Stands.{named_nests}
use Rattle.closed_texts.proofs.named_keys.named_keys_nest_no_deeper.Goals as goal

pub returns : goal.returns
returns c = λ s grouped v w u e. named_nests s grouped u v w e
