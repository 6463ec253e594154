use Rattle.std.proofs.Common.{refl}
use Rattle.node_walks.specs.declared.axis_walks.Stand.TheVariants.{Ahead}
use Rattle.node_walks.proofs.CourseLemmas.{stays}
use Rattle.node_walks.proofs.axis_walks.seek.Goals as goal

pub returns-then-go_to_hit-clause-found : goal.returns-then-go_to_hit-clause-found
returns-then-go_to_hit-clause-found g c =
    (stays Ahead c.go_to_hit.new.cursor refl (c.go_to_hit.ensures.stands c.if-go_to_hit.true)).1
