use Rattle.inside_test.proofs.level.Levels.is_right_of.Goals as goal
use Rattle.exact_plane.proofs.Registers.{read_is}

pub returns-clause-right : goal.returns-clause-right
returns-clause-right g c = λ p levels.
    rw (c.parts.ensures.x, read_is c.args.v.now.x c.parts.ensures.bounds.x_in_limit) at (c.is_above.ensures p.X p.W levels.across)
