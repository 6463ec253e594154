use Rattle.std.proofs.Common.{◌<◌, arith}
use Rattle.sheet_assembly.specs.Spaces.{down_from}
use Rattle.sheet_assembly.proofs.Levels.{turn}
use Rattle.sheet_assembly.proofs.spaces.down_from.Goals as goal

pub loop-level-preserved : goal.loop-level-preserved
loop-level-preserved c =
    let test = c.loop-level-test.true in
    let less : 0 < c.loop-level.level = omega arith in
    turn c.loop-level.made c.push_level.new.made (down_from c.args.levels c.args.rules.now)
    c.loop-level.level c.args.rules.now less c.in_ok-push_level.ensures c.loop-level.invariant
