use Rattle.inside_test.proofs.level.Levels.is_above.Goals as goal
use Rattle.exact_plane.proofs.Registers.{read_is}

pub returns-clause-above : goal.returns-clause-above
returns-clause-above g c = λ p levels.
    rw (c.parts.ensures.y, read_is c.args.v.now.y c.parts.ensures.bounds.y_in_limit) at (c.is_above.ensures p.Y p.W levels.height)
