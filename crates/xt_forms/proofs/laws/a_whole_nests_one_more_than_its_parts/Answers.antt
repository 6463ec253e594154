use Rattle.xt_forms.proofs.NestLemmas.{nest-is}
use Rattle.xt_forms.proofs.laws.a_whole_nests_one_more_than_its_parts.Goals as goal

pub returns : goal.returns
returns c = record { levels = nest-is }
