use Rattle.exact_plane.proofs.Registers.{short_is}
use Rattle.inside_test.proofs.level.Levels.is_left_of_all.Goals as goal

pub returns : goal.returns
returns c = λ all p levels v limits within.
    let b = c.args.around.now in
    c.is_below_from.ensures all p.X p.W v.x levels.across limits.x_in_limit (rw (short_is b.west b.west_fits) within.west)
