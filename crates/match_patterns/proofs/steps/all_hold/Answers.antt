use Rattle.std.proofs.Common.{◌<◌, length, arith}
use Rattle.match_patterns.proofs.StepLemmas.{each_allowed}
use Rattle.match_patterns.proofs.steps.all_hold.Goals as goal

pub holds-requires : goal.holds-requires
holds-requires c =
    let l : c.loop-test.test-index < length c.args.tests.now = omega arith in
    each_allowed c.args.tests.now c.loop-test.test-index c.test-item.result _ l c.test-item.is c.requires
