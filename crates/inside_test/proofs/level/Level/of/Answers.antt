use Rattle.inside_test.proofs.Levels.{level_is}
use Rattle.inside_test.proofs.level.Level.of.Goals as goal

pub returns : goal.returns
returns c =
    level_is c.args.part c.args.weight c.floor.result c.floor-2.result c.requires.part c.requires.weight c.floor.ensures.limit c.floor-2.ensures.limit
    c.floor.ensures.below c.floor-2.ensures.below
