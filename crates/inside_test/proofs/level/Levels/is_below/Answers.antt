use Rattle.inside_test.proofs.level.Levels.is_below.Goals as goal
use Rattle.exact_plane.proofs.Registers.{read_is}

pub returns-clause-below : goal.returns-clause-below
returns-clause-below g c = λ p levels.
    rw (c.parts.ensures.y, read_is c.args.v.now.y c.parts.ensures.bounds.y_in_limit) at (c.is_below.ensures p.Y p.W levels.height)
