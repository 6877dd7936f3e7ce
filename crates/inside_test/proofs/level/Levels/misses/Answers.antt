use Rattle.std.proofs.Common.{inl, inr}
use Rattle.exact_plane.proofs.Registers.{short_is}
use Rattle.inside_test.proofs.level.Levels.misses.Goals as goal
use Rattle.inside_test.proofs.level.Levels.misses.Goals.{else-is_below_from, then-is_below_from}

pub returns-then-is_above_to : goal.returns-then-is_above_to
returns-then-is_above_to c = λ all p levels.
    let b = c.args.around.now in
    elim c.if-is_below_from.branch [
      | then-is_below_from w ↦
          inl (λ v limits within. c.is_below_from.ensures w.if-is_below_from.true p.Y p.W v.y levels.height limits.y_in_limit (rw (short_is b.south b.south_fits) within.south))
      | else-is_below_from w ↦
          inr (inl (λ v limits within. w.is_above_to.ensures (rw w.value-is at all) p.Y p.W v.y levels.height limits.y_in_limit (rw (short_is b.north b.north_fits) within.north)))
    ]

pub returns-else-is_above_to : goal.returns-else-is_above_to
returns-else-is_above_to c = λ all p levels.
    let b = c.args.around.now in
    inr (inr (λ v limits within. c.is_above_to-else-is_above_to.ensures all p.X p.W v.x levels.across limits.x_in_limit (rw (short_is b.east b.east_fits) within.east)))
