use Rattle.quiet_steps.specs.Routes.{way_along}
use Rattle.quiet_steps.proofs.Answered.{walked_allowed}
use Rattle.quiet_steps.proofs.walks.walk_along.Goals as goal

pub walk_from-requires : goal.walk_from-requires
walk_from-requires c = walked_allowed (way_along c.args.route.now) c.requires
