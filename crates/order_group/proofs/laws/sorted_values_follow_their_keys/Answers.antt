use Rattle.order_group.proofs.Natural.{natural, as_long}
use Rattle.order_group.proofs.laws.sorted_values_follow_their_keys.Goals as goal

pub returns-clause-natural : goal.returns-clause-natural
returns-clause-natural g c = natural

pub returns-clause-long : goal.returns-clause-long
returns-clause-long g c = as_long
