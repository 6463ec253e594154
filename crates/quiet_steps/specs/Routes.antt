-- What a contract sees of a route.
use Rattle.walk_laws.specs.WayLaws.Ways.{Way}
use Rattle.quiet_steps.specs.declared.routes.Route.{Route}

abbrev pub way_along : Route → Way
way_along r = record { from = r.from; along = r.axis; wanted = r.test.now; tests = r.tests.now }
