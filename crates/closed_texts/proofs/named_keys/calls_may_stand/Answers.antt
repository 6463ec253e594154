use Rattle.std.proofs.Common.{[], refl}
use Rattle.closed_texts.proofs.NamedKeys.Stands.{named_fits}
use Rattle.closed_texts.proofs.named_keys.calls_may_stand.Goals as goal

pub returns : goal.returns
returns c = λ s grouped ts v w u d e b. (named_fits s grouped u v w d e b).holds [] [] refl
